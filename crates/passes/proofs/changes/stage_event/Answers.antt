use Rattle.passes.proofs.Listing as laws
use Rattle.passes.proofs.changes.stage_event.Goals as goal

pub stage_event-within-requires : goal.stage_event-within-requires
stage_event-within-requires c = record { has_state = c.requires.has_state; named = (c.requires.named.0, record { event = _; ok = c.requires.named.1; is = c.event_part.ensures }) }

pub returns : goal.returns
returns c = laws.stages c.args.p _ _ (c.stage_event-within.ensures _ c.requires.named.1 c.event_part.ensures) c.tried.ensures
