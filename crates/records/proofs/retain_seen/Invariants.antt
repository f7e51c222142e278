use Prim.Native.Nat.{◌-◌}
use Rattle.records.proofs.Sieve as sieve
use Rattle.records.proofs.retain_seen.Given as goal

abbrev pub invariant-loop : goal.invariant-loop
invariant-loop l = sieve.Retaining l.initial.work l.work l.i (l.end - l.counter)
