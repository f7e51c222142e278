use Rattle.machine.proofs.Steps as steps
use Rattle.model.specs.Calls.{Effect, Notice}
use mathlib.Core.Path.{ap}
use Rattle.queues.proofs.Writers as writers
use Rattle.queues.proofs.telling.tell_expired.Goals as goal

pub expired-pen-requires : goal.expired-pen-requires
expired-pen-requires c = writers.short_id _ _ c.bytes-edit.ensures.result_value c.requires

pub returns : goal.returns
returns c = steps.sends _ (ap (λ x. Effect.Notify (Notice.Expired x)) c.bytes-edit.ensures.result_value) (steps.told c.pen_of.ensures c.expired-pen.ensures c.sent.ensures)
