use native.Mathlib.Omega.{arith}
use mathlib.Core.Path.{◌≡◌, refl}
use mathlib.Core.Bool.{true, false}
use Rattle.state.specs.Values.{name_of}
use Rattle.answers.proofs.Writes as writes
use Rattle.answers.proofs.not_found.Goals as goal

pub returns-then-eq : goal.returns-then-eq
returns-then-eq c = let b : writes.of_case writes.deletes_it c.operation_case.result ≡ true = grind arith in writes.gone_deleted _ _ (writes.tells_delete (name_of c.args.name.bytes) c.operation_case.ensures refl) b c.deleted.ensures

pub returns : goal.returns
returns c = let b : writes.of_case writes.deletes_it c.operation_case.result ≡ false = grind arith in writes.gone_again _ _ (writes.tells_delete (name_of c.args.name.bytes) c.operation_case.ensures refl) b c.read_again.ensures
