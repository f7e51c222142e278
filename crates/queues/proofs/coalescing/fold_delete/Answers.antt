use mathlib.Core.Bool.{not}
use mathlib.Core.Path.{ap}
use borrow.Author.Tests.{not-true, not-false}
use Rattle.queues.proofs.Folding as folding
use Rattle.queues.proofs.coalescing.fold_delete.Goals as goal

pub returns-then-not-deletes : goal.returns-then-not-deletes
returns-then-not-deletes c = folding.delete_not c.args.work.now c.args.at (not-true _ (ap not c.if-not-deletes.true))

pub returns-then-case-eq0 : goal.returns-then-case-eq0
returns-then-case-eq0 c = folding.delete_on_create c.args.work.now c.args.at (not-false _ (ap not c.if-not-deletes.false)) c.if-case-eq0.true

pub returns-then-case-eq1 : goal.returns-then-case-eq1
returns-then-case-eq1 c = folding.delete_on_update c.args.work.now c.args.at c.requires.1 (not-false _ (ap not c.if-not-deletes.false)) c.if-case-eq1.true c.start.ensures c.byte-end.ensures

pub returns : goal.returns
returns c = folding.delete_on_delete c.args.work.now c.args.at (not-false _ (ap not c.if-not-deletes.false)) c.if-case-eq0.false c.if-case-eq1.false
