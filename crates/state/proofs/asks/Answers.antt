use Rattle.state.proofs.Columns as columns
use Rattle.state.proofs.Ops as ops
use Rattle.state.proofs.asks.Goals as goal

pub has-requires-clause-lent : goal.has-requires-clause-lent
has-requires-clause-lent c = columns.has_lent ops.flight_column c.requires.has_state

pub returns : goal.returns
returns c = ops.flight_asks c.purpose_bytes.result c.args.work.now c.args.purpose _ c.requires.named c.purpose_bytes.ensures c.has.ensures
