use mathlib.Core.Path.{ap, ◌∙◌}
use Rattle.values.specs.Parts.{meant_listed}
use Rattle.observe.proofs.Parts as parts
use Rattle.passes.proofs.Listing as laws
use Rattle.passes.proofs.changes.stage_found.Goals as goal

pub stage_event-requires : goal.stage_event-requires
stage_event-requires c = record { has_state = c.requires.has_state; named = (c.requires.named.0, parts.read_ok c.args.frame.now c.args.event c.read_option_event-read.ensures c.requires.named.1 _ c.in-Event.is) }

pub returns-in-Nothing : goal.returns-in-Nothing
returns-in-Nothing c = laws.found_nothing _ _ (parts.found_is c.args.frame.now c.args.event c.read_option_event-read.result.next _ c.read_option_event-read.ensures c.requires.named.1 ∙ ap (meant_listed c.args.frame.now) c.in-Nothing.is) c.stage_unread.ensures

pub returns-in-Event : goal.returns-in-Event
returns-in-Event c = laws.found_event _ _ _ (parts.found_is c.args.frame.now c.args.event c.read_option_event-read.result.next _ c.read_option_event-read.ensures c.requires.named.1 ∙ ap (meant_listed c.args.frame.now) c.in-Event.is) c.stage_event.ensures
