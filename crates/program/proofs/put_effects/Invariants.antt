use Rattle.program.proofs.Laws.{Going}
use Rattle.program.specs.Answers.{Effects}
use lib.ListN.{length}
use mathlib.Core.Path.{◌≡◌}
use Prim.Native.Nat.{◌≤◌, ◌+◌, ◌*◌, ◌-◌}
use Rattle.program.proofs.put_effects.Given as goal

abbrev pub invariant-loop-from : goal.invariant-loop-from
invariant-loop-from l = (length l.text ≡ length l.initial.text) × (l.from ≤ length l.effects) × (l.next ≤ l.at + 3 * l.from) × (l.count ≤ l.from) × ((E : Effects l.effects) → Going E.es l.initial.text l.text l.at l.from l.next l.count)

abbrev pub decreases-loop-from : goal.decreases-loop-from
decreases-loop-from l = length l.effects - l.from
