use Rattle.model.specs.Maps.{map}
use Rattle.looks.proofs.Lists.{Going}
use Rattle.looks.specs.Look.{queue_f, counted, held_state}
use Prim.Native.Nat.{◌-◌}
use lib.ListN.{length}
use mathlib.Core.Path.{◌≡◌}
use Rattle.looks.proofs.put_queues.Given as goal

abbrev pub invariant-loop-r : goal.invariant-loop-r
invariant-loop-r l = (length l.text ≡ length l.initial.text) × Going queue_f.enc (map counted (held_state l.state).edits) l.initial.text l.text l.at l.next l.count

abbrev pub decreases-loop-r : goal.decreases-loop-r
decreases-loop-r l = length (map counted (held_state l.state).edits) - l.count
