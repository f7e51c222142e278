use Rattle.input.proofs.Laws.{reads_taken, reads_more, reads_end}
use mathlib.Core.Path.{refl}
use borrow.Author.Rules.{rules}
use Rattle.input.proofs.chunks.read_part.Goals as goal

pub returns-then-p : goal.returns-then-p
returns-then-p c = reads_taken (search rules) c.take_part.ensures

pub returns-then-n-eq0 : goal.returns-then-n-eq0
returns-then-n-eq0 c = reads_end _ _ _ _ _ _ _ c.if-p.false c.requires.kept refl

pub returns : goal.returns
returns c = reads_more _ _ _ _ _ c.if-p.false c.requires.kept (search rules) (reads_taken (search rules) c.take_part-2.ensures)
