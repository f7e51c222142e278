use Rattle.std.proofs.Common.{rules, ◌∙◌}
use Rattle.format.specs.Format.{bool}
use Rattle.reader.specs.Left.{after}
use Rattle.wellformed.proofs.FieldLaws.{in_width_is}
use Rattle.wellformed.proofs.slot.collided.Goals as goal

pub returns : goal.returns
returns c = c.padded.ensures (after bool) (λ x r p. search rules) ∙ in_width_is 1 bool _
