use native.Mathlib.Omega.{arith}
use Rattle.std.specs.Prelude.{Some, false}
use mathlib.Core.Path.{◌≡◌, sym, ap, ◌∙◌}
use Rattle.writes.proofs.Behind as behind
use Rattle.writes.proofs.move_one.Goals as goal

pub returns-in-Some-Create : goal.returns-in-Some-Create
returns-in-Some-Create c = behind.one_stays c.operation_case.ensures (sym (ap behind.case_creates (c.in-Some-Create.is ∙ ap Some c.in-Some-Create.field-0-is)))

pub returns-in_default : goal.returns-in_default
returns-in_default c = let e : false ≡ behind.case_creates c.operation_case.result = grind arith in behind.one_moves c.operation_case.ensures e c.move_entry.ensures
