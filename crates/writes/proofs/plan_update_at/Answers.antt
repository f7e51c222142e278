use Rattle.machine.proofs.Runs as runs
use Rattle.writes.proofs.Planning as planning
use Rattle.writes.proofs.plan_update_at.Goals as goal

pub returns-then-merged_attendees-gt8 : goal.returns-then-merged_attendees-gt8
returns-then-merged_attendees-gt8 c = λ b o t by G. planning.too_many _ b o t by (c.merged_attendees.ensures b o t by G) c.if-merged_attendees-gt8.true c.refuse.ensures

pub send_merged-requires : goal.send_merged-requires
send_merged-requires c = record { has_state = let K = c.requires.named.1 in runs.edited (c.plan_head.ensures _ _ _ _ K.given) c.requires.has_state; named = c.requires.named.0 }

pub returns : goal.returns
returns c = λ b o t by G. let l = planning.few_enough b o t by (c.merged_attendees.ensures b o t by G) c.if-merged_attendees-gt8.false in let K = planning.merged_is _ _ G l (c.put_event-m.ensures b o t by G l) c.part-event.ensures in planning.merges _ b o t by l (c.plan_head.ensures b o t by G) (c.send_merged.ensures b o t by K.0 K.1 G.theirs)
