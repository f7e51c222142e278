use Rattle.input.proofs.Laws.{reads_start, reads_then}
use borrow.Author.Rules.{rules}
use Rattle.input.proofs.chunks.read_line.Goals as goal

pub loop-init : goal.loop-init
loop-init c = (search rules, search rules, reads_start _ _ _ _ c.requires.0 c.requires.1)

pub returns-then-p : goal.returns-then-p
returns-then-p c = c.loop.invariant.2

pub returns-then-p-2 : goal.returns-then-p-2
returns-then-p-2 c = c.loop.invariant.2

pub read_part-p-requires : goal.read_part-p-requires
read_part-p-requires c = c.loop.invariant.2.ready

pub loop-preserved : goal.loop-preserved
loop-preserved c = (search rules, search rules, reads_then _ (search rules) c.if-p.false c.if-p-2.false c.loop.invariant.2 c.read_part-p.ensures)

pub returns : goal.returns
returns c = c.loop.invariant.2
