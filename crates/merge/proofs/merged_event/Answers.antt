use Rattle.merge.proofs.Laws as laws
use Rattle.merge.proofs.merged_event.Goals as goal

pub returns : goal.returns
returns c = λ b o t by G. laws.event_written G c.is_owner.ensures c.writer.ensures c.fields_of.ensures _ (c.merged_attendees-n.ensures b o t by G) c.before_fields.ensures c.part-p.ensures c.merged_fields-q.ensures c.after_fields.ensures c.part.ensures
