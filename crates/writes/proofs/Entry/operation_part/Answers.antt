use Rattle.writes.proofs.Merges as merges
use Rattle.writes.proofs.Entry.operation_part.Goals as goal

pub returns : goal.returns
returns c = merges.operation_is _ _ _ c.part.ensures
