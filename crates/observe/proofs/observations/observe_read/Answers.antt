use Rattle.observe.proofs.Parts as parts
use Rattle.observe.proofs.observations.observe_read.Goals as goal

pub returns-in-Nothing : goal.returns-in-Nothing
returns-in-Nothing c = parts.read_none c.args.frame.now c.args.at c.read_option_event-read.ensures c.requires.named.1 _ c.in-Nothing.is c.observe_gone.ensures

pub observe_at-requires : goal.observe_at-requires
observe_at-requires c = record { has_state = c.requires.has_state; named = (c.requires.named.0, parts.read_ok c.args.frame.now c.args.at c.read_option_event-read.ensures c.requires.named.1 _ c.in-Event.is) }

pub returns-in-Event : goal.returns-in-Event
returns-in-Event c = parts.read_some c.args.frame.now c.args.at c.read_option_event-read.ensures c.requires.named.1 _ _ c.in-Event.is c.observe_at.ensures
