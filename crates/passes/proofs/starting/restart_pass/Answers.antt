use Rattle.machine.proofs.Runs as runs
use Rattle.passes.proofs.Passing as passing
use Rattle.passes.proofs.starting.restart_pass.Goals as goal

pub clear_cursor-requires : goal.clear_cursor-requires
clear_cursor-requires c = runs.edited c.drop_pass_reads.ensures c.requires

pub start_pass-requires : goal.start_pass-requires
start_pass-requires c = runs.edited c.clear_cursor.ensures (runs.edited c.drop_pass_reads.ensures c.requires)

pub returns : goal.returns
returns c = passing.restarted c.drop_pass_reads.ensures c.clear_cursor.ensures c.start_pass.ensures
