use Rattle.pens.specs.Writing.{Wrote}
use lib.ListN.{replicate}
use Prim.Native.Nat.{◌-◌, ◌≤◌}
use Rattle.clerks_bytes.proofs.names.repeated.Given as goal

abbrev pub invariant-loop-i : goal.invariant-loop-i
invariant-loop-i l = (l.i ≤ l.times) × Wrote l.initial.out l.out l.initial.next l.next (replicate l.i l.name)

abbrev pub decreases-loop-i : goal.decreases-loop-i
decreases-loop-i l = l.times - l.i
