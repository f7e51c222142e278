use Rattle.state.proofs.Columns as columns
use Rattle.state.proofs.Ops as ops
use Rattle.state.proofs.remove_in_flight.Goals as goal

pub remove-requires-clause-lent : goal.remove-requires-clause-lent
remove-requires-clause-lent c = columns.has_lent ops.flight_column c.requires

pub returns : goal.returns
returns c = ops.flight_removed c.key_of.result c.args.work.now c.remove.new.work c.args.n c.ranges.n.fits c.key_of.ensures c.remove.ensures
