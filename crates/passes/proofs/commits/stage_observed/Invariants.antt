use mathlib.Core.Path.{◌≡◌}
use lib.ListN.{length}
use Rattle.passes.proofs.Committing as committing
use Prim.Native.Nat.{◌-◌}
use Rattle.state.specs.Contract.{Reads}
use Rattle.state.specs.Layout.{pass_of}
use Rattle.passes.proofs.commits.stage_observed.Given as goal

abbrev pub invariant-loop-i : goal.invariant-loop-i
invariant-loop-i l = (length l.work ≡ length l.initial.work) × (committing.Staging l.initial.work l.initial.progress l.work l.progress l.i) × (Reads (λ s. length (pass_of s.pass).observed) l.work l.count)

abbrev pub decreases-loop-i : goal.decreases-loop-i
decreases-loop-i l = 16 - l.i
