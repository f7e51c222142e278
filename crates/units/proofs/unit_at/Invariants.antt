use Rattle.units.specs.Units.{unit_at}
use mathlib.Core.Path.{◌≡◌}
use Prim.Native.Nat.{◌-◌, ◌≤◌}
use Rattle.units.proofs.unit_at.Given as goal

abbrev pub invariant-loop-j : goal.invariant-loop-j
invariant-loop-j l = (l.j ≤ l.k) × (l.c ≡ unit_at l.s l.j)

abbrev pub decreases-loop-j : goal.decreases-loop-j
decreases-loop-j l = l.k - l.j
