use Rattle.looks.proofs.Lists.{Going}
use Rattle.looks.specs.Look.{record_f, held_state}
use Prim.Native.Nat.{◌-◌}
use lib.ListN.{length}
use mathlib.Core.Path.{◌≡◌}
use Rattle.looks.proofs.put_records.Given as goal

abbrev pub invariant-loop-r : goal.invariant-loop-r
invariant-loop-r l = (length l.text ≡ length l.initial.text) × Going record_f.enc (held_state l.state).records l.initial.text l.text l.at l.next l.count

abbrev pub decreases-loop-r : goal.decreases-loop-r
decreases-loop-r l = length (held_state l.state).records - l.count
