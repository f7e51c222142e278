use native.Mathlib.Omega.{arith}
use mathlib.Core.Path.{sym, ◌∙◌}
use Rattle.state.proofs.Columns as columns
use Rattle.staged.proofs.Laws as laws
use Rattle.staged.proofs.listed_unread.Goals as goal

pub find-requires-clause-lent : goal.find-requires-clause-lent
find-requires-clause-lent c = columns.has_lent laws.staged_column c.requires.has_state

pub overflow_add-result : goal.overflow_add-result
overflow_add-result c = omega (arith, laws.listed_room c.args.name.bytes c.args.work.now c.in-Ok.at c.requires.named c.requires.has_state (λ t z e. sym c.in-Ok.is ∙ c.find.ensures t z e))

pub overflow_add-result-in-Ok : goal.overflow_add-result-in-Ok
overflow_add-result-in-Ok c = omega (arith, laws.listed_room c.args.name.bytes c.args.work.now c.in-Ok.at c.requires.named c.requires.has_state (λ t z e. sym c.in-Ok.is ∙ c.find.ensures t z e))

pub bounds-work-at : goal.bounds-work-at
bounds-work-at c = omega (arith, laws.listed_room c.args.name.bytes c.args.work.now c.in-Ok.at c.requires.named c.requires.has_state (λ t z e. sym c.in-Ok.is ∙ c.find.ensures t z e))

pub returns-in-Ok : goal.returns-in-Ok
returns-in-Ok c = laws.listed_found c.args.name.bytes c.args.work.now c.in-Ok.at c.requires.named (λ t z e. sym c.in-Ok.is ∙ c.find.ensures t z e)

pub returns-in-Err : goal.returns-in-Err
returns-in-Err c = laws.listed_missing c.args.name.bytes c.args.work.now c.in-Err.field-0 c.requires.named (λ t z e. sym c.in-Err.is ∙ c.find.ensures t z e)
