use Prim.Native.Nat.{◌-◌, ◌≤◌}
use lib.ListN.{take, drop}
use Rattle.model.specs.State.{Queue}
use Rattle.state.specs.Contract.{Reads}
use Rattle.state.specs.Values.{name_of}
use Rattle.waiting.specs.Queues.{queue}
use Rattle.machine.specs.Contract.{Does}
use Rattle.clock.specs.Expiring.{tell_due}
use Rattle.clock.proofs.tell_due.Given as goal

abbrev pub invariant-loop-j : goal.invariant-loop-j
invariant-loop-j live = (live.n ≤ live.j) × ((l : Queue) → Reads (λ s. queue (name_of live.name.bytes) s) live.work l → Does (tell_due live.at (take (live.j - live.n) (drop live.n l))) live.work live.initial.out live.initial.q live.q live.work live.out)
