use mathlib.Core.Path.{sym}
use lib.Seq.{length-take-le}
use borrow.Author.Rules.{rules}
use Rattle.state_test.proofs.fresh.Goals as goal

pub slice_bounds-fresh-end-then-n-bytes : goal.slice_bounds-fresh-end-then-n-bytes
slice_bounds-fresh-end-then-n-bytes c = sym (length-take-le _ _ (search rules))
