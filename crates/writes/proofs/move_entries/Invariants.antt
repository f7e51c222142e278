use Prim.Native.Nat.{◌-◌}
use Rattle.state.specs.Values.{name_of}
use Rattle.writes.proofs.Behind as behind
use Rattle.writes.proofs.move_entries.Given as goal

abbrev pub invariant-loop : goal.invariant-loop
invariant-loop l = behind.Sweeping (name_of l.from.bytes) (name_of l.to.bytes) l.initial.work l.work (l.n - l.counter) l.j
