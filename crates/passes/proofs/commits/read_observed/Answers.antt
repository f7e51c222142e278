use Rattle.machine.proofs.Runs as runs
use Rattle.passes.proofs.Committing as committing
use Rattle.observe.proofs.Observing as observing
use Rattle.passes.proofs.commits.read_observed.Goals as goal

pub clear-requires : goal.clear-requires
clear-requires c = observing.still c.stage_observed-q.ensures c.requires

pub read_unread-requires : goal.read_unread-requires
read_unread-requires c = runs.edited c.clear.ensures (observing.still c.stage_observed-q.ensures c.requires)

pub returns : goal.returns
returns c = committing.observed_read c.stage_observed-q.ensures c.clear.ensures c.read_unread.ensures
