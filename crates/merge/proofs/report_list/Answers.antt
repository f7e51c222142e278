use Rattle.merge.proofs.Laws as laws
use Rattle.merge.proofs.report_list.Goals as goal

pub returns : goal.returns
returns c = laws.list_is _ c.count_reports-n.ensures c.byte-p.ensures c.reports-h.ensures
