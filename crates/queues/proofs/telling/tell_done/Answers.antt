use Rattle.machine.proofs.Steps as steps
use mathlib.Core.List.{[]}
use Rattle.model.specs.Calls.{Effect, Notice}
use mathlib.Core.Path.{ap}
use Rattle.queues.proofs.Writers as writers
use Rattle.queues.proofs.Queueing as queueing
use Rattle.queues.proofs.telling.tell_done.Goals as goal

pub applied-pen-requires : goal.applied-pen-requires
applied-pen-requires c = writers.short_id _ _ c.bytes-edit.ensures.result_value c.requires

pub returns : goal.returns
returns c = steps.sends _ (ap (λ x. Effect.Notify (Notice.Applied x [] [])) c.bytes-edit.ensures.result_value) (steps.told c.pen_of.ensures (c.applied-pen.ensures.told [] [] queueing.empty_conflicts queueing.empty_refused) c.sent.ensures)
