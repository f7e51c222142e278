use Rattle.std.proofs.Common.{◌≡◌, drop, nat_eq}
use Rattle.spans.specs.Bytes.{both, all_zero}
use Rattle.spans.proofs.all_zero.Given as goal

abbrev pub invariant-loop-b : goal.invariant-loop-b
invariant-loop-b l = all_zero l.s ≡ both (nat_eq l.bits 0) (all_zero (drop l.b-index l.s))
