use mathlib.Core.Path.{sym}
use lib.Seq.{length-take-le}
use Rattle.clerks_bytes.proofs.BufferLaws.{line_is}
use borrow.Author.Rules.{rules}
use Rattle.clerks.proofs.main.Goals as goal

pub answer-n-requires : goal.answer-n-requires
answer-n-requires c = let l = line_is in search rules

pub slice_bounds-write_all-end : goal.slice_bounds-write_all-end
slice_bounds-write_all-end c = sym (length-take-le _ _ c.answer-n.ensures.is.fits)
