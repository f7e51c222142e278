use Rattle.state.proofs.Columns as columns
use Rattle.state.proofs.Ops as ops
use Rattle.state.proofs.learn.Goals as goal

pub insert-requires-clause-lent : goal.insert-requires-clause-lent
insert-requires-clause-lent c = columns.has_lent ops.learned_column c.requires.has_state

pub returns : goal.returns
returns c = ops.learn_tries c.args.name.bytes c.to_be_bytes.result c.slot-slot.result c.args.work.now c.insert.new.work _ c.args.n c.ranges.n.fits c.requires.named c.to_be_bytes.ensures c.slot-slot.ensures c.insert.ensures
