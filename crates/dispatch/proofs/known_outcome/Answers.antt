use Rattle.dispatch.proofs.Laws as laws
use Rattle.machine.proofs.Runs as runs
use Rattle.dispatch.proofs.known_outcome.Goals as goal

pub on_outcome-q-requires : goal.on_outcome-q-requires
on_outcome-q-requires c = record { has_state = runs.edited c.remove_in_flight.ensures c.requires.has_state; named = c.requires.named }

pub try_commit-requires : goal.try_commit-requires
try_commit-requires c = c.on_outcome-q.ensures.state (runs.edited c.remove_in_flight.ensures c.requires.has_state)

pub returns : goal.returns
returns c = laws.known_is _ _ _ c.remove_in_flight.ensures c.on_outcome-q.ensures c.try_commit.ensures
