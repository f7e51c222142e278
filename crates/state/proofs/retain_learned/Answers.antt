use Rattle.state.proofs.Columns as columns
use Rattle.state.proofs.Ops as ops
use Rattle.state.proofs.retain_learned.Goals as goal

pub sift-requires-clause-lent : goal.sift-requires-clause-lent
sift-requires-clause-lent c = columns.has_lent ops.learned_column c.requires

pub returns : goal.returns
returns c = ops.learned_retained c.to_be_bytes.result c.args.work.now c.sift.new.work c.args.oldest c.ranges.oldest.fits c.to_be_bytes.ensures c.sift.ensures
