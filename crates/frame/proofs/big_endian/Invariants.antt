use Prim.Native.Nat.{◌+◌, ◌≤◌, ◌<◌, ◌-◌, ◌^◌}
use lib.ListN.{drop}
use Rattle.format.specs.Format.{digits}
use mathlib.Core.Path.{◌≡◌}
use Rattle.frame.proofs.big_endian.Given as goal

abbrev pub invariant-loop-i : goal.invariant-loop-i
invariant-loop-i l = (l.i ≤ l.w) × (l.v < 256 ^ l.i) × (digits l.w 0 (drop l.at l.frame) ≡ digits (l.w - l.i) l.v (drop (l.at + l.i) l.frame))

abbrev pub decreases-loop-i : goal.decreases-loop-i
decreases-loop-i l = l.w - l.i
