use Rattle.pass_header.proofs.field_of.Goals as goal

pub returns : goal.returns
returns c = c.slot.ensures
