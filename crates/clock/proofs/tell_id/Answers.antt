use mathlib.Core.Path.{◌≡◌, ap}
use lib.ListN.{length}
use Rattle.model.specs.Calls.{Effect, Notice}
use Rattle.machine.proofs.Steps as steps
use Rattle.queues.proofs.Parts as parts
use borrow.Author.Rules.{rules}
use Rattle.clock.proofs.tell_id.Goals as goal

pub expired-pen-requires : goal.expired-pen-requires
expired-pen-requires c = let L : length c.args.id.bytes ≡ 33 = search rules in parts.text_short _ _ c.text_of.ensures L

pub returns : goal.returns
returns c = steps.sends _ (ap (λ x. Effect.Notify (Notice.Expired x)) c.text_of.ensures) (steps.told c.pen_of.ensures c.expired-pen.ensures c.sent.ensures)
