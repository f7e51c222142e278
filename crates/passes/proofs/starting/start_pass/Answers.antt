use Rattle.machine.proofs.Runs as runs
use Rattle.passes.proofs.Passing as passing
use Rattle.passes.proofs.starting.start_pass.Goals as goal

pub request_list-requires : goal.request_list-requires
request_list-requires c = runs.edited c.open_pass.ensures c.requires

pub returns : goal.returns
returns c = passing.started c.open_pass.ensures c.request_list.ensures
