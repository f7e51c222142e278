use Rattle.std.specs.Prelude.{None}
use Rattle.access.proofs.Laws.{answers_no, answers_zero, has_of}
use borrow.Author.Rules.{rules}
use Rattle.access.proofs.record_at.Goals as goal

pub returns-then-code-ne0 : goal.returns-then-code-ne0
returns-then-code-ne0 c = (answers_no c.refusal-code.ensures _ _ c.if-code-ne0.true, search rules, search rules)

pub record_bytes-requires : goal.record_bytes-requires
record_bytes-requires c = has_of c.refusal-code.ensures c.if-code-ne0.false

pub returns : goal.returns
returns c = (answers_zero c.refusal-code.ensures None c.if-code-ne0.false c.record_bytes.ensures.0 c.record_bytes.ensures.1, c.record_bytes.ensures.2, c.record_bytes.ensures.3)
