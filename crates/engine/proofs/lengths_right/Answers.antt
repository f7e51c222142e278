use Rattle.engine.proofs.Laws as laws
use Rattle.engine.proofs.lengths_right.Goals as goal

pub returns-then-state-ne-STATE : goal.returns-then-state-ne-STATE
returns-then-state-ne-STATE c = laws.wrong_state _ _ _ c.if-state-ne-STATE.true

pub returns-then-work-ne-STATE : goal.returns-then-work-ne-STATE
returns-then-work-ne-STATE c = laws.wrong_work _ _ _ c.if-state-ne-STATE.false c.if-work-ne-STATE.true

pub returns : goal.returns
returns c = laws.by_output _ _ _ c.if-state-ne-STATE.false c.if-work-ne-STATE.false
