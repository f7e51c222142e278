use Rattle.std.proofs.Common.{rules, ◌∙◌}
use Rattle.model.specs.Formats.{role_f}
use Rattle.reader.specs.Left.{after}
use Rattle.wellformed.proofs.FieldLaws.{in_width_is}
use Rattle.wellformed.proofs.slot.role.Goals as goal

pub returns : goal.returns
returns c = c.padded.ensures (after role_f) (λ x r p. search rules) ∙ in_width_is 34 role_f _
