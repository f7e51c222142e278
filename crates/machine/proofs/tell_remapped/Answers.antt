use Rattle.model.specs.Calls.{Notice, Effect}
use mathlib.Core.Path.{ap₂}
use Rattle.machine.proofs.Steps as steps
use Rattle.machine.proofs.tell_remapped.Goals as goal

pub remapped-pen-requires : goal.remapped-pen-requires
remapped-pen-requires c = (steps.short_text _ _ c.text_of.ensures c.requires.0, steps.short_text _ _ c.text_of-2.ensures c.requires.1)

pub returns : goal.returns
returns c = steps.sends _ (ap₂ (λ x y. Effect.Notify (Notice.Remapped x y)) c.text_of.ensures c.text_of-2.ensures) (steps.told c.pen_of.ensures c.remapped-pen.ensures c.sent.ensures)
