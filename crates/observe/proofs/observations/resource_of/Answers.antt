use Rattle.observe.proofs.Parts as parts
use Rattle.observe.proofs.observations.resource_of.Goals as goal

pub name_from-requires : goal.name_from-requires
name_from-requires c = parts.id_fits _ _ c.requires c.resource_at.ensures

pub returns : goal.returns
returns c = (parts.id_is _ _ _ c.resource_at.ensures c.name_from.ensures.0, c.name_from.ensures.1)
