use Rattle.std.specs.Prelude.{Some, None}
use mathlib.Core.Path.{ap, ◌∙◌}
use Rattle.writes.proofs.Planning as planning
use Rattle.writes.proofs.plan_gone.Goals as goal

pub returns-then-is_collided : goal.returns-then-is_collided
returns-then-is_collided c = planning.create_collides _ c.requires.has_state (planning.head_case _ c.operation_case.ensures (c.in-Some-Create.is ∙ ap Some c.in-Some-Create.field-0-is)) c.is_collided.ensures c.if-is_collided.true c.finish.ensures

pub returns-else-is_collided : goal.returns-else-is_collided
returns-else-is_collided c = planning.create_writes _ c.requires.has_state (planning.head_case _ c.operation_case.ensures (c.in-Some-Create.is ∙ ap Some c.in-Some-Create.field-0-is)) c.is_collided.ensures c.if-is_collided.false c.request_create.ensures

pub returns-in-Some-Update : goal.returns-in-Some-Update
returns-in-Some-Update c = planning.update_gone _ c.requires.has_state (planning.head_case _ c.operation_case.ensures (c.in-Some-Update.is ∙ ap Some c.in-Some-Update.field-0-is)) c.finish-in-Some-Update.ensures

pub returns-in-Some-Delete : goal.returns-in-Some-Delete
returns-in-Some-Delete c = planning.delete_gone _ c.requires.has_state (planning.head_case _ c.operation_case.ensures (c.in-Some-Delete.is ∙ ap Some c.in-Some-Delete.field-0-is)) c.finish-in-Some-Delete.ensures

pub returns-in-None : goal.returns-in-None
returns-in-None c = planning.plan_nothing _ None c.requires.has_state (planning.head_case _ c.operation_case.ensures c.in-None.is)
