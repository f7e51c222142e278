use Rattle.access.proofs.Laws.{checked_short, checked_yes, checked_no}
use borrow.Author.Rules.{rules}
use Rattle.access.proofs.refusal.Goals as goal

pub returns-then-state-ne-STATE : goal.returns-then-state-ne-STATE
returns-then-state-ne-STATE c = checked_short c.args.state.now c.if-state-ne-STATE.true

pub returns-then-is_state : goal.returns-then-is_state
returns-then-is_state c = checked_yes c.args.state.now _ c.is_state.ensures.0 c.if-is_state.true

pub returns : goal.returns
returns c = checked_no c.args.state.now _ (search rules) c.is_state.ensures.1 c.if-is_state.false
