use native.Mathlib.Omega.{arith}
use mathlib.Core.Path.{◌≡◌, refl}
use mathlib.Core.Bool.{true, false}
use Rattle.state.specs.Values.{name_of}
use Rattle.answers.proofs.Writes as writes
use Rattle.answers.proofs.written.Goals as goal

pub returns-then-eq : goal.returns-then-eq
returns-then-eq c = λ e k q. let b : writes.of_case writes.creates c.operation_case.result ≡ true = grind arith in writes.written_new _ _ e (writes.tells_create (name_of c.args.name.bytes) c.operation_case.ensures refl) b (c.resource_of-to.ensures.0 e k q) (c.observe_written-q.ensures e k q) c.remap-r.ensures c.finish.ensures

pub returns : goal.returns
returns c = λ e k q. let b : writes.of_case writes.creates c.operation_case.result ≡ false = grind arith in writes.written_old _ _ e (writes.tells_create (name_of c.args.name.bytes) c.operation_case.ensures refl) b (c.observe_written-q-2.ensures e k q) c.finish-2.ensures
