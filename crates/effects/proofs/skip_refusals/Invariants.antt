use Prim.Native.Nat.{◌≤◌, ◌-◌}
use mathlib.Core.Path.{◌≡◌}
use Rattle.model.specs.Formats.{refused_f}
use Rattle.frame.proofs.Skips.{skip_n}
use Rattle.effects.proofs.skip_refusals.Given as goal

abbrev pub invariant-loop-i : goal.invariant-loop-i
invariant-loop-i l = (l.i ≤ l.n) × (skip_n refused_f l.s l.n l.initial.c ≡ skip_n refused_f l.s (l.n - l.i) l.c)

abbrev pub decreases-loop-i : goal.decreases-loop-i
decreases-loop-i l = l.n - l.i
