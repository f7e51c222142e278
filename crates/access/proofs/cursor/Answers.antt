use Rattle.std.specs.Prelude.{None}
use Rattle.access.proofs.Laws.{answers_no, answers_zero, has_of}
use borrow.Author.Rules.{rules}
use Rattle.access.proofs.cursor.Goals as goal

pub returns-then-code-ne0 : goal.returns-then-code-ne0
returns-then-code-ne0 c = (answers_no c.refusal-code.ensures _ _ c.if-code-ne0.true, search rules)

pub cursor_text-requires : goal.cursor_text-requires
cursor_text-requires c = has_of c.refusal-code.ensures c.if-code-ne0.false

pub returns : goal.returns
returns c = (answers_zero c.refusal-code.ensures None c.if-code-ne0.false c.cursor_text.ensures.0 c.cursor_text.ensures.1, c.cursor_text.ensures.2)
