use Rattle.access.proofs.Laws.{fresh_short, fresh_made}
use borrow.Author.Rules.{rules}
use Rattle.access.proofs.fresh.Goals as goal

pub returns-then-state-ne-STATE : goal.returns-then-state-ne-STATE
returns-then-state-ne-STATE c = fresh_short c.args.state.now c.if-state-ne-STATE.true

pub returns : goal.returns
returns c = fresh_made c.args.state.now _ (search rules) c.zero.ensures
