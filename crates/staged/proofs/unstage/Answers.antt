use Rattle.state.proofs.Columns as columns
use Rattle.pass_tables.proofs.Laws as pass
use Rattle.staged.proofs.Laws as laws
use Rattle.staged.proofs.unstage.Goals as goal

pub remove-requires-clause-lent : goal.remove-requires-clause-lent
remove-requires-clause-lent c = columns.has_lent laws.staged_column c.requires.has_state

pub returns-then-is_open : goal.returns-then-is_open
returns-then-is_open c = laws.unstaged c.args.name.bytes c.args.work.now c.remove.new.work c.requires.named c.is_open.ensures c.if-is_open.true c.remove.ensures

pub returns-else-is_open : goal.returns-else-is_open
returns-else-is_open c = pass.unchanged _ c.args.work.now c.is_open.ensures c.if-is_open.false
