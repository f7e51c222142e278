use Rattle.merge.proofs.Laws as laws
use Rattle.merge.proofs.merged_attendees.Goals as goal

pub returns : goal.returns
returns c = λ b o t by G. laws.attendees_count G c.is_owner.ensures c.writer.ensures c.fields_of.ensures _ c.count_attendees.ensures
