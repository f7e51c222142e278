use Rattle.machine.proofs.Steps as steps
use Rattle.effects.specs.Told.{meant_refusal}
use Rattle.model.specs.Calls.{Effect, Notice}
use mathlib.Core.Path.{◌≡◌, ap}
use Rattle.queues.proofs.Parts as parts
use lib.ListN.{length}
use borrow.Author.Rules.{rules}
use Rattle.queues.proofs.telling.tell_rejected.Goals as goal

pub rejected-pen-requires : goal.rejected-pen-requires
rejected-pen-requires c = let L : length c.args.id.bytes ≡ 33 = search rules in
    parts.text_short _ _ c.text_of.ensures L

pub returns : goal.returns
returns c = steps.sends _ (ap (λ x. Effect.Notify (Notice.Rejected x (meant_refusal c.args.refusal))) c.text_of.ensures) (steps.told c.pen_of.ensures c.rejected-pen.ensures c.sent.ensures)
