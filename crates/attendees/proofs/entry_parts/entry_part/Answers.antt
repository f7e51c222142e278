use Rattle.attendees.proofs.Laws as laws
use borrow.Author.Rules.{rules}
use Rattle.attendees.proofs.entry_parts.entry_part.Goals as goal

pub returns-then-entry_count-i : goal.returns-then-entry_count-i
returns-then-entry_count-i c = laws.entry_none c.args.list.now c.args.i _ c.entry_count.ensures (search rules)

pub returns : goal.returns
returns c = laws.entry_some c.args.list.now c.args.i _ _ _ _ c.entry_count.ensures (search rules) c.entry_at-c.ensures c.skip_attendee-e.ensures c.part.ensures
