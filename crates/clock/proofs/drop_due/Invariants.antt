use Prim.Native.Nat.{◌≤◌, ◌<◌}
use Rattle.state.specs.Contract.{HasState, Edits}
use Rattle.state.specs.Values.{name_of}
use Rattle.waiting.specs.Queues.{queue, put_queue}
use Rattle.clock.specs.Expiring.{kept_behind}
use Rattle.clock.proofs.drop_due.Given as goal

abbrev pub invariant-loop-j : goal.invariant-loop-j
invariant-loop-j l = (HasState l.work) × (l.j ≤ l.total) × (l.j < l.n → l.total ≤ l.j) × Edits (λ s. put_queue (name_of l.name.bytes) (kept_behind l.j l.at (queue (name_of l.name.bytes) s)) s) l.initial.work l.work
