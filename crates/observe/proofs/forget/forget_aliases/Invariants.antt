use Prim.Native.Nat.{◌-◌}
use Rattle.observe.proofs.Forgetting as forgetting
use Rattle.observe.proofs.forget.forget_aliases.Given as goal

abbrev pub invariant-loop : goal.invariant-loop
invariant-loop l = forgetting.Retaining l.initial.work l.work l.i (l.count - l.counter)
