use Rattle.merge.proofs.Laws as laws
use Rattle.merge.proofs.refused.Goals as goal

pub returns : goal.returns
returns c = λ b o t by G. laws.refused_written G c.is_owner.ensures c.writer.ensures c.fields_of.ensures c.report_list.ensures
