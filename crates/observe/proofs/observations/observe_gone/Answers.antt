use Rattle.observe.proofs.Observing as observing
use Rattle.observe.proofs.observations.observe_gone.Goals as goal

pub observe_none-requires : goal.observe_none-requires
observe_none-requires c = record { has_state = observing.still c.learn-q.ensures c.requires.has_state; named = c.requires.named }

pub returns : goal.returns
returns c = observing.observes_gone _ c.learn-q.ensures c.observe_none.ensures
