use Rattle.state.proofs.Columns as columns
use Rattle.staged.proofs.Laws as laws
use Rattle.staged.proofs.any_unread.Goals as goal

pub has-requires-clause-lent : goal.has-requires-clause-lent
has-requires-clause-lent c = columns.has_lent laws.staged_column c.requires

pub returns : goal.returns
returns c = laws.some_unread c.args.work.now _ c.has.ensures
