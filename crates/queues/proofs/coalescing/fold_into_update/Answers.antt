use mathlib.Core.Path.{◌∙◌}
use Rattle.queues.proofs.Writers as writers
use Rattle.queues.proofs.Folding as folding
use Rattle.queues.proofs.coalescing.fold_into_update.Goals as goal

pub returns-then-eq : goal.returns-then-eq
returns-then-eq c = folding.updates_fold c.args.work.now c.args.frame.now c.args.at c.args.from c.args.to c.requires.0 c.requires.2 c.requires.3 c.fields_at-base.ensures c.fields_end.ensures c.fields_at-ours.ensures c.fields_at-expected.ensures (c.eq.ensures ∙ writers.same_of _ _) c.requires.1 c.if-eq.true c.fields_at-new.ensures c.start.ensures c.byte.ensures c.part.ensures c.part-end.ensures

pub returns : goal.returns
returns c = folding.updates_apart c.args.work.now c.args.frame.now c.args.at c.args.from c.args.to c.requires.0 c.requires.2 c.requires.3 c.fields_at-base.ensures c.fields_end.ensures c.fields_at-ours.ensures c.fields_at-expected.ensures (c.eq.ensures ∙ writers.same_of _ _) c.if-eq.false
