use Prim.Native.Nat.{◌-◌}
use Rattle.model.specs.State.{SyncState}
use Rattle.state.specs.Contract.{Keeps}
use Rattle.waiting.proofs.Keys as keys
use Rattle.waiting.proofs.finding.resources.Given as goal

abbrev pub invariant-loop-i : goal.invariant-loop-i
invariant-loop-i l = (s : SyncState) → Keeps s l.work → keys.Listed s.edits l.i l.names

abbrev pub decreases-loop-i : goal.decreases-loop-i
decreases-loop-i l = 6 - l.i
