use Rattle.pens.specs.Writing.{Listed}
use Rattle.units.specs.Units.{unit_at, units_items}
use mathlib.Core.Path.{◌≡◌}
use Prim.Native.Nat.{◌-◌, ◌≤◌}
use Rattle.units.proofs.units.Given as goal

abbrev pub invariant-loop-k : goal.invariant-loop-k
invariant-loop-k l = (l.from ≤ l.k) × (l.k - l.from ≤ l.to - l.from) × (l.b ≡ unit_at l.base l.k) × (l.o ≡ unit_at l.ours l.k) × (l.t ≡ unit_at l.theirs l.k)
    × Listed l.initial.out l.out l.initial.h.pen l.initial.h.count l.h.pen l.h.count (units_items l.which l.owner l.base l.ours l.theirs l.from (l.k - l.from))

abbrev pub decreases-loop-k : goal.decreases-loop-k
decreases-loop-k l = l.to - l.k
