use Rattle.model.specs.Calls.{Effect}
use Rattle.model.specs.Seam.{Request}
use mathlib.Core.Path.{ap}
use Rattle.machine.proofs.Steps as steps
use Rattle.machine.proofs.request_read.Goals as goal

pub read-pen-requires : goal.read-pen-requires
read-pen-requires c = steps.short_text _ _ c.text_of.ensures c.requires.named.1

pub returns : goal.returns
returns c = steps.requested _ _ c.next_request-id.ensures c.reserve-q.ensures (steps.sends _ (ap (λ x. Effect.Request c.next_request-id.result (Request.Read x)) c.text_of.ensures) (steps.told c.pen_of.ensures c.read-pen.ensures c.sent.ensures))
