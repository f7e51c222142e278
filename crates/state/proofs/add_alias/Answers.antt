use Rattle.state.proofs.Columns as columns
use Rattle.state.proofs.Ops as ops
use Rattle.state.proofs.add_alias.Goals as goal

pub insert-requires-clause-lent : goal.insert-requires-clause-lent
insert-requires-clause-lent c = columns.has_lent ops.alias_column c.requires.has_state

pub returns : goal.returns
returns c = ops.alias_tries c.args.from.bytes c.args.to.bytes c.slot-slot.result c.args.work.now c.insert.new.work _ c.requires.named.0 c.requires.named.1 c.slot-slot.ensures c.insert.ensures
