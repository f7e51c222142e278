use Rattle.std.proofs.Common.{rules, ◌∙◌}
use Rattle.format.specs.Format.{list}
use Rattle.model.specs.Formats.{short_text}
use Rattle.reader.specs.Left.{after}
use Rattle.wellformed.proofs.FieldLaws.{in_width_is}
use Rattle.wellformed.proofs.slot.absorbed.Goals as goal

pub returns : goal.returns
returns c = c.padded.ensures (after (list 8 short_text)) (λ x r p. search rules) ∙ in_width_is 265 (list 8 short_text) _
