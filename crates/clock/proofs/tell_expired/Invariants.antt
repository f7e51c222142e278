use Rattle.std.specs.Prelude.{Some}
use lib.ListN.{take}
use Rattle.model.specs.State.{Pending}
use Rattle.model.specs.Machine.{for_each}
use Rattle.model.specs.Sync.{ids_of}
use Rattle.state.specs.Contract.{Reads}
use Rattle.state.specs.Values.{name_of}
use Rattle.waiting.specs.Queues.{queue, nth}
use Rattle.machine.specs.Contract.{Does}
use Rattle.clock.proofs.Expiring as expiring
use Rattle.clock.proofs.tell_expired.Given as goal

abbrev pub invariant-loop-k : goal.invariant-loop-k
invariant-loop-k l = (e : Pending) → Reads (λ s. nth l.j (queue (name_of l.name.bytes) s)) l.work (Some e) → Does (for_each expiring.tell_id (take l.k (ids_of e))) l.work l.initial.out l.initial.q l.q l.work l.out
