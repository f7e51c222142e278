use Rattle.state.proofs.Columns as columns
use Rattle.state.proofs.Ops as ops
use Rattle.state.proofs.clear_in_flight.Goals as goal

pub returns : goal.returns
returns c = columns.emptied ops.flight_column c.args.work.now c.clear.new.work ops.always c.clear.ensures
