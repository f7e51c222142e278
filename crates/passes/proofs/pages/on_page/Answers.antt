use Rattle.passes.proofs.Answering as answering
use Rattle.observe.proofs.Observing as observing
use Rattle.passes.proofs.pages.on_page.Goals as goal

pub after_page-asked-requires : goal.after_page-asked-requires
after_page-asked-requires c = record { has_state = observing.still c.list_changes-walked.ensures.changes c.requires.has_state; ok = answering.end_ok _ _ (answering.end_is c.args.frame.now c.list_changes-walked.result.place c.read_next-read.result.next _ _ c.read_next-read.ensures c.list_changes-walked.ensures.place_value) c.requires.ok }

pub read_unread-requires : goal.read_unread-requires
read_unread-requires c = c.after_page-asked.ensures.state (observing.still c.list_changes-walked.ensures.changes c.requires.has_state)

pub returns : goal.returns
returns c = answering.paged c.args.id _ _ c.list_changes-walked.ensures.changes (answering.end_is c.args.frame.now c.list_changes-walked.result.place c.read_next-read.result.next _ _ c.read_next-read.ensures c.list_changes-walked.ensures.place_value) c.after_page-asked.ensures c.read_unread.ensures
