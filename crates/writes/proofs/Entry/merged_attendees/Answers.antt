use Rattle.writes.proofs.Merges as merges
use Rattle.writes.proofs.Entry.merged_attendees.Goals as goal

pub returns : goal.returns
returns c = λ b o t by G. c.merged_attendees.ensures b o t by (merges.given_as _ _ c.operation_part.ensures c.ours_part.ensures c.role_part.ensures G)
