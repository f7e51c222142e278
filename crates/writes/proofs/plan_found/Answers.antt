use Rattle.std.specs.Prelude.{Some}
use mathlib.Core.Path.{ap, ◌∙◌}
use Rattle.writes.proofs.Planning as planning
use Rattle.writes.proofs.Entries as entries
use Rattle.writes.proofs.plan_found.Goals as goal

pub plan_create-requires : goal.plan_create-requires
plan_create-requires c = record { has_state = c.requires.has_state; named = (c.requires.named.0, c.requires.named.1, planning.head_case _ c.operation_case.ensures (c.in-Some-Create.is ∙ ap Some c.in-Some-Create.field-0-is)) }

pub plan_update-requires : goal.plan_update-requires
plan_update-requires c = record { has_state = c.requires.has_state; named = (c.requires.named.0, c.requires.named.1, planning.head_case _ c.operation_case.ensures (c.in-Some-Update.is ∙ ap Some c.in-Some-Update.field-0-is)) }

pub returns-in-Some-Delete : goal.returns-in-Some-Delete
returns-in-Some-Delete c = λ t k e. planning.plan_deletes _ c.requires.has_state (planning.head_case _ c.operation_case.ensures (c.in-Some-Delete.is ∙ ap Some c.in-Some-Delete.field-0-is)) t (c.request_delete.ensures _ (c.revision_of.ensures t (entries.begins_alone _ t k e)))

pub returns-in-None : goal.returns-in-None
returns-in-None c = λ t k e. planning.plan_nothing _ (Some t) c.requires.has_state (planning.head_case _ c.operation_case.ensures c.in-None.is)
