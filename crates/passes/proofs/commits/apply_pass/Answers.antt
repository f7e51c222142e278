use Rattle.machine.proofs.Runs as runs
use Rattle.passes.proofs.Committing as committing
use Rattle.observe.proofs.Observing as observing
use Rattle.passes.proofs.commits.apply_pass.Goals as goal

pub keep_seen-requires : goal.keep_seen-requires
keep_seen-requires c = (observing.still c.apply_staged-q.ensures c.requires)

pub take_cursor-requires : goal.take_cursor-requires
take_cursor-requires c = (runs.edited c.keep_seen.ensures (observing.still c.apply_staged-q.ensures c.requires))

pub close_pass-requires : goal.close_pass-requires
close_pass-requires c = (runs.edited c.take_cursor.ensures (runs.edited c.keep_seen.ensures (observing.still c.apply_staged-q.ensures c.requires)))

pub returns : goal.returns
returns c = committing.applied c.apply_staged-q.ensures c.keep_seen.ensures c.take_cursor.ensures c.close_pass.ensures c.tell_synced.ensures
