use Rattle.observe.proofs.Observing as observing
use Rattle.machine.proofs.Runs as runs
use Rattle.observe.proofs.observations.observe_event.Goals as goal

pub unstage-requires : goal.unstage-requires
unstage-requires c = record { has_state = observing.still c.learn-q.ensures c.requires.has_state; named = c.requires.named.0 }

pub unstage-requires-2 : goal.unstage-requires-2
unstage-requires-2 c = record { has_state = runs.edited c.unstage.ensures (observing.still c.learn-q.ensures c.requires.has_state); named = c.resource_of-id.ensures.1 }

pub see_or_watch-r-requires : goal.see_or_watch-r-requires
see_or_watch-r-requires c = record { has_state = runs.edited c.unstage-2.ensures (runs.edited c.unstage.ensures (observing.still c.learn-q.ensures c.requires.has_state)); named = c.resource_of-id.ensures.1 }

pub put_record-requires : goal.put_record-requires
put_record-requires c = record { has_state = observing.still c.see_or_watch-r.ensures (runs.edited c.unstage-2.ensures (runs.edited c.unstage.ensures (observing.still c.learn-q.ensures c.requires.has_state))); named = (c.resource_of-id.ensures.1, c.requires.named.1) }

pub returns : goal.returns
returns c = λ e k q. observing.observes_event _ _ e (c.resource_of-id.ensures.0 e k q) c.learn-q.ensures c.unstage.ensures c.unstage-2.ensures c.see_or_watch-r.ensures (c.put_record.ensures e k q)
