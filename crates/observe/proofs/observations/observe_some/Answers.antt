use Rattle.observe.proofs.Observing as observing
use Rattle.observe.proofs.observations.observe_some.Goals as goal

pub observe_event-requires : goal.observe_event-requires
observe_event-requires c = record { has_state = observing.still c.learn-q.ensures c.requires.has_state; named = c.requires.named }

pub returns : goal.returns
returns c = λ e k q. observing.observes_some _ e c.learn-q.ensures (c.observe_event.ensures e k q)
