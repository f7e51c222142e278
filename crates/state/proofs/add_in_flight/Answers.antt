use Rattle.state.proofs.Columns as columns
use Rattle.state.proofs.Ops as ops
use Rattle.state.proofs.add_in_flight.Goals as goal

pub insert-requires-clause-lent : goal.insert-requires-clause-lent
insert-requires-clause-lent c = columns.has_lent ops.flight_column c.requires.has_state

pub returns : goal.returns
returns c = ops.flight_tries c.key_of.result c.purpose_bytes.result c.slot-slot.result c.args.work.now c.insert.new.work c.args.purpose _ c.args.n c.ranges.n.fits c.requires.named c.key_of.ensures c.purpose_bytes.ensures c.slot-slot.ensures c.insert.ensures
