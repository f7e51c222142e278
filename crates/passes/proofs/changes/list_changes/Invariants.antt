use mathlib.Core.Path.{◌≡◌}
use lib.ListN.{length}
use Rattle.passes.proofs.Paging as paging
use Rattle.passes.proofs.changes.list_changes.Given as goal

abbrev pub invariant-loop-left : goal.invariant-loop-left
invariant-loop-left l = (length l.work ≡ length l.initial.work) × paging.Paging l.frame l.page l.id l.initial.work l.initial.progress l.work l.progress l.place l.left

abbrev pub decreases-loop-left : goal.decreases-loop-left
decreases-loop-left l = l.left
