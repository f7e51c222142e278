use Rattle.passes.proofs.Committing as committing
use Rattle.passes.proofs.commits.apply_entry.Goals as goal

pub put_record_at-requires-clause-named : goal.put_record_at-requires-clause-named
put_record_at-requires-clause-named c =
    let h = committing.entry_has c.args.work.now c.staged_name-name.result.bytes c.args.i c.entry.result c.requires.has_state c.staged_name-name.ensures.reads c.entry.ensures c.in-Present.at c.in-Present.is in
    (c.staged_name-name.ensures.named, h.0, h.1)

pub returns-in-Present : goal.returns-in-Present
returns-in-Present c = committing.entry_present c.args.work.now c.staged_name-name.result.bytes c.args.i c.entry.result c.requires.has_state c.staged_name-name.ensures.reads c.entry.ensures c.in-Present.at c.in-Present.is c.put_record_at.ensures

pub returns-in-Unread : goal.returns-in-Unread
returns-in-Unread c = committing.entry_unread c.args.work.now c.staged_name-name.result.bytes c.args.i c.entry.result c.requires.has_state c.staged_name-name.ensures.reads c.entry.ensures c.args.p c.in-Unread.is

pub returns-in-Removed : goal.returns-in-Removed
returns-in-Removed c = committing.entry_removed c.args.work.now c.staged_name-name.result.bytes c.args.i c.entry.result c.requires.has_state c.staged_name-name.ensures.reads c.entry.ensures c.args.p c.in-Removed.is c.remove_record.ensures
