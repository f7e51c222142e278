use Rattle.observe.proofs.observations.observe_at.Goals as goal

pub observe_some-requires : goal.observe_some-requires
observe_some-requires c = record { has_state = c.requires.has_state; named = (c.requires.named.0, record { event = _; ok = c.requires.named.1; is = c.event_part.ensures }) }

pub returns : goal.returns
returns c = c.observe_some.ensures _ c.requires.named.1 c.event_part.ensures
