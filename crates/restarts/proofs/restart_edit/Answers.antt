use Rattle.restarts.proofs.Laws as laws
use Rattle.machine.proofs.Runs as runs
use Rattle.restarts.proofs.restart_edit.Goals as goal

pub start_edit-requires : goal.start_edit-requires
start_edit-requires c = record { has_state = runs.edited c.clear_plan.ensures c.requires.has_state; named = c.requires.named }

pub returns : goal.returns
returns c = laws.restarts _ c.clear_plan.ensures c.start_edit.ensures
