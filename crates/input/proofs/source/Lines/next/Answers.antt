use Rattle.std.proofs.Common.{refl}
use borrow.Author.Tests.{not-true, not-false}
use Rattle.input.proofs.Laws.{hands_line, hands_none}
use Rattle.input.proofs.source.Lines.next.Goals as goal

pub returns-then-not-p : goal.returns-then-not-p
returns-then-not-p c = hands_none c.if-self.false c.read_line-p.ensures refl refl (not-true _ c.if-not-p.true)

pub returns : goal.returns
returns c = hands_line c.if-self.false c.read_line-p.ensures refl refl (not-false _ c.if-not-p.false)
