use Rattle.std.proofs.Common.{rules, ◌∙◌}
use Rattle.format.specs.Format.{option, stamp}
use Rattle.reader.specs.Left.{after}
use Rattle.wellformed.proofs.FieldLaws.{in_width_is}
use Rattle.wellformed.proofs.slot.expiry.Goals as goal

pub returns : goal.returns
returns c = c.padded.ensures (after (option stamp)) (λ x r p. search rules) ∙ in_width_is 9 (option stamp) _
