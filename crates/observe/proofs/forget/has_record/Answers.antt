use Rattle.observe.proofs.Forgetting as forgetting
use Rattle.observe.proofs.forget.has_record.Goals as goal

pub returns : goal.returns
returns c = rw c.is_some.ensures (forgetting.has_found _ c.args.work.now c.find_record.result c.find_record.ensures)
