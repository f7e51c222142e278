use Rattle.writes.proofs.Merges as merges
use Rattle.writes.proofs.Entry.ours_part.Goals as goal

pub returns : goal.returns
returns c = merges.ours_is _ _ _ _ _ c.operation_part-s.ensures c.skip_fields-base.ensures c.part.ensures
