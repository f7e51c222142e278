use Rattle.std.proofs.Common.{rules, ◌∙◌}
use Rattle.model.specs.Formats.{resource_id}
use Rattle.reader.specs.Left.{after}
use Rattle.wellformed.proofs.FieldLaws.{in_width_is}
use Rattle.wellformed.proofs.slot.resource.Goals as goal

pub returns : goal.returns
returns c = c.padded.ensures (after resource_id) (λ x r p. search rules) ∙ in_width_is 33 resource_id _
