use Rattle.attendees.specs.Entries.{tally_of}
use mathlib.Core.Path.{◌≡◌}
use Prim.Native.Nat.{◌-◌, ◌≤◌}
use Rattle.attendees.proofs.finding.occurrence.Given as goal

abbrev pub invariant-loop-j : goal.invariant-loop-j
invariant-loop-j l = (l.j ≤ l.i) × (l.n ≤ l.j) × (l.n ≡ tally_of l.list l.a l.j)

abbrev pub decreases-loop-j : goal.decreases-loop-j
decreases-loop-j l = l.i - l.j
