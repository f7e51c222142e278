use Rattle.attendees.specs.Entries.{find_from}
use mathlib.Core.Path.{◌≡◌}
use Prim.Native.Nat.{◌-◌, ◌≤◌}
use Rattle.attendees.proofs.finding.find_entry.Given as goal

abbrev pub invariant-loop-i : goal.invariant-loop-i
invariant-loop-i l = (l.i ≤ l.count) × (find_from l.list l.wanted l.n 0 l.count ≡ find_from l.list l.wanted l.left l.i (l.count - l.i))

abbrev pub decreases-loop-i : goal.decreases-loop-i
decreases-loop-i l = l.count - l.i
