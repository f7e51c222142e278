use Rattle.writes.proofs.Merges as merges
use Rattle.writes.proofs.Entry.role_part.Goals as goal

pub returns : goal.returns
returns c = merges.role_is _ _ _ c.part.ensures
