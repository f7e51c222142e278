use Rattle.state.proofs.Columns as columns
use Rattle.state.proofs.Ops as ops
use Rattle.state.proofs.drop_in_flight.Goals as goal

pub sift-requires-clause-lent : goal.sift-requires-clause-lent
sift-requires-clause-lent c = columns.has_lent ops.flight_column c.requires.has_state

pub returns : goal.returns
returns c = ops.flight_dropped c.purpose_bytes.result c.args.work.now c.sift.new.work c.args.purpose c.requires.named c.purpose_bytes.ensures c.sift.ensures
