use Rattle.state.proofs.Columns as columns
use Rattle.state.proofs.Ops as ops
use Rattle.state.proofs.remove_alias.Goals as goal

pub remove-requires-clause-lent : goal.remove-requires-clause-lent
remove-requires-clause-lent c = columns.has_lent ops.alias_column c.requires.has_state

pub returns : goal.returns
returns c = ops.alias_removed c.args.from.bytes c.args.work.now c.remove.new.work c.requires.named c.remove.ensures
