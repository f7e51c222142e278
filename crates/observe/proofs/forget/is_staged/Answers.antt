use Rattle.observe.proofs.Forgetting as forgetting
use Rattle.state.proofs.Columns as columns
use Rattle.staged.proofs.Laws as staged
use Rattle.observe.proofs.forget.is_staged.Goals as goal

pub find-requires-clause-lent : goal.find-requires-clause-lent
find-requires-clause-lent c = columns.has_lent staged.staged_column c.requires.has_state

pub returns : goal.returns
returns c = rw c.is_ok.ensures.value (forgetting.staged_found c.args.name.bytes c.args.work.now c.find.result c.requires.named c.find.ensures)
