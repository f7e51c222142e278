use mathlib.Core.Path.{◌≡◌}
use lib.ListN.{length}
use Rattle.passes.proofs.Committing as committing
use Prim.Native.Nat.{◌-◌}
use Rattle.state.specs.Contract.{Reads}
use Rattle.staged.specs.Staging.{staged_of}
use Rattle.passes.proofs.commits.apply_staged.Given as goal

abbrev pub invariant-loop-i : goal.invariant-loop-i
invariant-loop-i l = (length l.work ≡ length l.initial.work) × (committing.Applying l.initial.work l.initial.progress l.work l.progress l.i) × (Reads (λ s. length (staged_of s)) l.work l.count)

abbrev pub decreases-loop-i : goal.decreases-loop-i
decreases-loop-i l = 10 - l.i
