use Rattle.access.proofs.Laws.{answers_no, answers_yes, has_of}
use Rattle.access.proofs.waiting_count.Goals as goal

pub returns-then-code-ne0 : goal.returns-then-code-ne0
returns-then-code-ne0 c = answers_no c.refusal-code.ensures _ 0 c.if-code-ne0.true

pub waiting-count-requires : goal.waiting-count-requires
waiting-count-requires c = has_of c.refusal-code.ensures c.if-code-ne0.false

pub returns : goal.returns
returns c = answers_yes c.refusal-code.ensures 0 c.if-code-ne0.false c.waiting-count.ensures
