use native.Mathlib.Omega.{arith}
use mathlib.Core.Path.{sym, ◌∙◌}
use Rattle.state.proofs.Columns as columns
use Rattle.state.proofs.Ops as ops
use Rattle.state.proofs.alias.Goals as goal

pub find-requires-clause-lent : goal.find-requires-clause-lent
find-requires-clause-lent c = columns.has_lent ops.alias_column c.requires.has_state

pub overflow_add-at : goal.overflow_add-at
overflow_add-at c = omega (arith, ops.alias_room c.args.from.bytes c.args.work.now c.in-Ok.at c.requires.named c.requires.has_state (λ t z e. sym c.in-Ok.is ∙ c.find.ensures t z e))

pub overflow_add-at-in-Ok : goal.overflow_add-at-in-Ok
overflow_add-at-in-Ok c = omega (arith, ops.alias_room c.args.from.bytes c.args.work.now c.in-Ok.at c.requires.named c.requires.has_state (λ t z e. sym c.in-Ok.is ∙ c.find.ensures t z e))

pub name_at-requires : goal.name_at-requires
name_at-requires c = omega (arith, ops.alias_room c.args.from.bytes c.args.work.now c.in-Ok.at c.requires.named c.requires.has_state (λ t z e. sym c.in-Ok.is ∙ c.find.ensures t z e))

pub returns-in-Ok : goal.returns-in-Ok
returns-in-Ok c =
    let both = ops.alias_found c.args.from.bytes c.args.work.now c.name_at.result.bytes c.in-Ok.at c.requires.named c.requires.has_state (λ t z e. sym c.in-Ok.is ∙ c.find.ensures t z e) c.name_at.ensures in
    record { reads = both.0; named_2 = both.1 }

pub returns-in-Err-clause-reads : goal.returns-in-Err-clause-reads
returns-in-Err-clause-reads c = ops.alias_missing c.args.from.bytes c.args.work.now c.in-Err.field-0 c.requires.named (λ t z e. sym c.in-Err.is ∙ c.find.ensures t z e)
