use Rattle.input.proofs.Laws.{takes_on, takes_whole}
use lib.Seq.{length-take-le}
use mathlib.Core.Path.{sym}
use borrow.Author.Rules.{rules}
use Rattle.input.proofs.chunks.take_part.Goals as goal

pub slice_bounds-keep-end : goal.slice_bounds-keep-end
slice_bounds-keep-end c = sym (length-take-le _ _ c.line_end-stop.ensures.0)

pub returns-then-stop-left : goal.returns-then-stop-left
returns-then-stop-left c = takes_on _ _ _ _ _ _ _ _ c.requires.0 c.requires.1 c.line_end-stop.ensures.1 c.keep-kept.ensures.0 c.keep-kept.ensures.1 c.if-stop-left.true

pub returns : goal.returns
returns c = takes_whole _ _ _ _ _ _ _ _ c.requires.0 c.requires.1 c.line_end-stop.ensures.1 c.keep-kept.ensures.0 c.keep-kept.ensures.1 (search rules)
