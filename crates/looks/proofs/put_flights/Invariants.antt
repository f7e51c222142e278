use Rattle.model.specs.Formats.{u64}
use Rattle.model.specs.Maps.{keys}
use Rattle.looks.proofs.Lists.{Going}
use Rattle.looks.specs.Look.{held_state}
use Prim.Native.Nat.{◌-◌}
use lib.ListN.{length}
use mathlib.Core.Path.{◌≡◌}
use Rattle.looks.proofs.put_flights.Given as goal

abbrev pub invariant-loop-r : goal.invariant-loop-r
invariant-loop-r l = (length l.text ≡ length l.initial.text) × Going u64.enc (keys (held_state l.state).in_flight) l.initial.text l.text l.at l.next l.count

abbrev pub decreases-loop-r : goal.decreases-loop-r
decreases-loop-r l = length (keys (held_state l.state).in_flight) - l.count
