use Rattle.machine.proofs.Runs as runs
use Rattle.passes.proofs.Passing as passing
use Rattle.passes.proofs.starting.abandon_pass.Goals as goal

pub drop_of_pass-requires : goal.drop_of_pass-requires
drop_of_pass-requires c = runs.edited c.close_pass.ensures c.requires

pub returns : goal.returns
returns c = passing.abandoned _ c.close_pass.ensures c.drop_of_pass.ensures c.tell_listing_failed.ensures
