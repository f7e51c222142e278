use Rattle.observe.proofs.Observing as observing
use Rattle.machine.proofs.Runs as runs
use Rattle.observe.proofs.observations.observe_none.Goals as goal

pub remove-requires : goal.remove-requires
remove-requires c = record { has_state = runs.edited c.unstage.ensures c.requires.has_state; named = c.requires.named }

pub watch_unless_done-q-requires : goal.watch_unless_done-q-requires
watch_unless_done-q-requires c = record { has_state = runs.edited c.remove.ensures (runs.edited c.unstage.ensures c.requires.has_state); named = c.requires.named }

pub remove_record-requires : goal.remove_record-requires
remove_record-requires c = record { has_state = observing.still c.watch_unless_done-q.ensures (runs.edited c.remove.ensures (runs.edited c.unstage.ensures c.requires.has_state)); named = c.requires.named }

pub returns : goal.returns
returns c = observing.observes_none _ c.unstage.ensures c.remove.ensures c.watch_unless_done-q.ensures c.remove_record.ensures
