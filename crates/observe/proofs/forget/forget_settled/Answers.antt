use Rattle.observe.proofs.Forgetting as forgetting
use Rattle.machine.proofs.Runs as runs
use Rattle.observe.proofs.forget.forget_settled.Goals as goal

pub set_learned_all-requires : goal.set_learned_all-requires
set_learned_all-requires c = runs.edited c.clear_learned.ensures c.requires

pub returns-in-None : goal.returns-in-None
returns-in-None c = forgetting.settled_none c.first_in_flight.ensures c.in-None.is c.clear_learned.ensures c.set_learned_all.ensures

pub returns-in-Some : goal.returns-in-Some
returns-in-Some c = forgetting.settled_some _ c.first_in_flight.ensures c.in-Some.is c.forget_before.ensures
