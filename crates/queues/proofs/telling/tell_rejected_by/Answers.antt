use Rattle.machine.proofs.Steps as steps
use Rattle.frame.specs.Meaning.{meant_outcome}
use Rattle.model.specs.Sync.{describe}
use Rattle.model.specs.Calls.{Effect, Notice, Rejection}
use mathlib.Core.Path.{◌≡◌, ap}
use Rattle.queues.proofs.Parts as parts
use lib.ListN.{length}
use borrow.Author.Rules.{rules}
use Rattle.queues.proofs.telling.tell_rejected_by.Goals as goal

pub rejected_by-pen-requires : goal.rejected_by-pen-requires
rejected_by-pen-requires c = let L : length c.args.id.bytes ≡ 33 = search rules in
    parts.text_short _ _ c.text_of.ensures L

pub returns : goal.returns
returns c = steps.sends _ (ap (λ x. Effect.Notify (Notice.Rejected x (Rejection.Provider (describe (meant_outcome c.args.frame.now c.args.outcome))))) c.text_of.ensures) (steps.told c.pen_of.ensures c.rejected_by-pen.ensures c.sent.ensures)
