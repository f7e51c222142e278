use Rattle.queues.proofs.Folding as folding
use Rattle.queues.proofs.coalescing.fold_update.Goals as goal

pub returns-then-case-eq0 : goal.returns-then-case-eq0
returns-then-case-eq0 c = folding.update_on_create c.args.work.now c.args.at _ _ c.if-case-eq0.true c.fold_into_create.ensures

pub returns-then-case-eq1 : goal.returns-then-case-eq1
returns-then-case-eq1 c = folding.update_on_update c.args.work.now c.args.at _ _ c.if-case-eq1.true c.fold_into_update.ensures

pub returns : goal.returns
returns c = folding.update_on_delete c.args.work.now c.args.at _ _ c.if-case-eq0.false c.if-case-eq1.false
