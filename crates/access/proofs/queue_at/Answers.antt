use Rattle.std.specs.Prelude.{None}
use Rattle.access.proofs.Laws.{answers_no, answers_zero, has_of}
use borrow.Author.Rules.{rules}
use Rattle.access.proofs.queue_at.Goals as goal

pub returns-then-code-ne0 : goal.returns-then-code-ne0
returns-then-code-ne0 c = (rw (c.no_queue.ensures.0, c.no_queue.ensures.1) (answers_no c.refusal-code.ensures _ _ c.if-code-ne0.true), search rules)

pub queue_bytes-requires : goal.queue_bytes-requires
queue_bytes-requires c = has_of c.refusal-code.ensures c.if-code-ne0.false

pub returns : goal.returns
returns c = (answers_zero c.refusal-code.ensures None c.if-code-ne0.false c.queue_bytes.ensures.0 c.queue_bytes.ensures.1, c.queue_bytes.ensures.2)
