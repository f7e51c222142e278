use Prim.Native.Nat.{◌≤◌, ◌-◌}
use Rattle.model.specs.Formats.{change_f}
use Rattle.frame.proofs.Skips.{skip_n}
use mathlib.Core.Path.{◌≡◌}
use Rattle.frame.proofs.Cursor.skip_changes.Given as goal

abbrev pub invariant-loop-i : goal.invariant-loop-i
invariant-loop-i l = (l.i ≤ l.n) × (skip_n change_f l.frame l.n l.initial.c ≡ skip_n change_f l.frame (l.n - l.i) l.c)

abbrev pub decreases-loop-i : goal.decreases-loop-i
decreases-loop-i l = l.n - l.i
