use native.Mathlib.Omega.{arith}
use mathlib.Core.Path.{sym, ◌∙◌}
use Rattle.state.proofs.Columns as columns
use Rattle.state.proofs.Ops as ops
use Rattle.state.proofs.learned.Goals as goal

pub find-requires-clause-lent : goal.find-requires-clause-lent
find-requires-clause-lent c = columns.has_lent ops.learned_column c.requires.has_state

pub overflow_add-at : goal.overflow_add-at
overflow_add-at c = omega (arith, ops.learned_room c.args.name.bytes c.args.work.now c.in-Ok.at c.requires.named c.requires.has_state (λ t z e. sym c.in-Ok.is ∙ c.find.ensures t z e))

pub overflow_add-at-in-Ok : goal.overflow_add-at-in-Ok
overflow_add-at-in-Ok c = omega (arith, ops.learned_room c.args.name.bytes c.args.work.now c.in-Ok.at c.requires.named c.requires.has_state (λ t z e. sym c.in-Ok.is ∙ c.find.ensures t z e))

pub get_be-requires : goal.get_be-requires
get_be-requires c = omega (arith, ops.learned_room c.args.name.bytes c.args.work.now c.in-Ok.at c.requires.named c.requires.has_state (λ t z e. sym c.in-Ok.is ∙ c.find.ensures t z e))

pub returns-in-Ok : goal.returns-in-Ok
returns-in-Ok c = ops.learned_found c.args.name.bytes c.args.work.now c.in-Ok.at _ c.requires.named (λ t z e. sym c.in-Ok.is ∙ c.find.ensures t z e) c.get_be.ensures

pub returns-in-Err : goal.returns-in-Err
returns-in-Err c = ops.learned_missing c.args.name.bytes c.args.work.now c.in-Err.field-0 c.requires.named (λ t z e. sym c.in-Err.is ∙ c.find.ensures t z e)
