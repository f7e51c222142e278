use Rattle.answers.proofs.Found as found
use Rattle.answers.proofs.Writes as writes
use Rattle.observe.proofs.Parts as parts
use Rattle.answers.proofs.edit_read_found.Goals as goal

pub returns-in-Nothing : goal.returns-in-Nothing
returns-in-Nothing c = found.at_none _ _ c.args.frame.now c.args.at c.read_option_event-read.ensures c.requires.named.1 c.in-Nothing.is c.edit_read_gone.ensures

pub event_part-theirs-requires : goal.event_part-theirs-requires
event_part-theirs-requires c = parts.read_ok c.args.frame.now c.args.at c.read_option_event-read.ensures c.requires.named.1 _ c.in-Event.is

pub edit_read_event-requires : goal.edit_read_event-requires
edit_read_event-requires c = record { has_state = c.requires.has_state; named = (c.requires.named.0, writes.is_event _ (parts.read_ok c.args.frame.now c.args.at c.read_option_event-read.ensures c.requires.named.1 _ c.in-Event.is) c.event_part-theirs.ensures) }

pub returns-in-Event : goal.returns-in-Event
returns-in-Event c = found.at_event _ _ c.args.frame.now c.args.at c.read_option_event-read.ensures c.requires.named.1 _ c.in-Event.is (c.edit_read_event.ensures _ (parts.read_ok c.args.frame.now c.args.at c.read_option_event-read.ensures c.requires.named.1 _ c.in-Event.is) c.event_part-theirs.ensures)
