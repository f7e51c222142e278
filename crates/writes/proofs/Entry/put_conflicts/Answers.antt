use Rattle.writes.proofs.Merges as merges
use Rattle.writes.proofs.Entry.put_conflicts.Goals as goal

pub returns : goal.returns
returns c = λ b o t by G. let K = merges.given_as _ _ c.operation_part.ensures c.ours_part.ensures c.role_part.ensures G in merges.conflicts_filled K c.requires (c.conflicts-pen.ensures b o t by K)
