use Rattle.writes.proofs.Merges as merges
use Rattle.writes.proofs.Entry.put_event.Goals as goal

pub returns : goal.returns
returns c = λ b o t by G h. let K = merges.given_as _ _ c.operation_part.ensures c.ours_part.ensures c.role_part.ensures G in merges.event_filled K c.requires h (c.merged_event-pen.ensures b o t by K)
