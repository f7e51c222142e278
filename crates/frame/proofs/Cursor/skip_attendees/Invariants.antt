use Prim.Native.Nat.{◌≤◌, ◌-◌}
use Rattle.model.specs.Formats.{attendee_f}
use Rattle.frame.proofs.Skips.{skip_n}
use mathlib.Core.Path.{◌≡◌}
use Rattle.frame.proofs.Cursor.skip_attendees.Given as goal

abbrev pub invariant-loop-i : goal.invariant-loop-i
invariant-loop-i l = (l.i ≤ l.n) × (skip_n attendee_f l.frame l.n l.initial.c ≡ skip_n attendee_f l.frame (l.n - l.i) l.c)

abbrev pub decreases-loop-i : goal.decreases-loop-i
decreases-loop-i l = l.n - l.i
