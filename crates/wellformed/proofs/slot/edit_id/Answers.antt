use Rattle.std.proofs.Common.{rules, ◌∙◌}
use Rattle.model.specs.Formats.{short_text}
use Rattle.reader.specs.Left.{after}
use Rattle.wellformed.proofs.FieldLaws.{in_width_is}
use Rattle.wellformed.proofs.slot.edit_id.Goals as goal

pub returns : goal.returns
returns c = c.padded.ensures (after short_text) (λ x r p. search rules) ∙ in_width_is 33 short_text _
