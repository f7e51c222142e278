use Rattle.passes.proofs.Answering as answering
use Rattle.passes.proofs.pages.on_list.Goals as goal

pub returns-then-is_open : goal.returns-then-is_open
returns-then-is_open c = answering.answered c.is_open.ensures c.args.id _ c.if-is_open.true c.list_answered.ensures

pub returns : goal.returns
returns c = answering.not_answered c.is_open.ensures c.args.id _ c.if-is_open.false
