use mathlib.Core.Path.{◌∙◌}
use Rattle.queues.proofs.Writers as writers
use Rattle.queues.proofs.Folding as folding
use Rattle.queues.proofs.coalescing.fold_into_create.Goals as goal

pub returns-then-eq : goal.returns-then-eq
returns-then-eq c = folding.creates_fold c.args.work.now c.args.frame.now c.args.at c.args.from c.args.to c.fields_place-place.result c.requires.0 c.requires.2 c.requires.3 c.fields_place-place.ensures c.fields_at-held.ensures c.fields_at-expected.ensures (c.eq.ensures ∙ writers.same_of _ _) c.requires.1 c.if-eq.true c.part-front.ensures c.fields_at-new.ensures c.fields_end.ensures c.tag_at-rest.ensures c.start.ensures c.byte.ensures c.part.ensures c.part-then-eq.ensures c.part-end.ensures

pub returns : goal.returns
returns c = folding.creates_apart c.args.work.now c.args.frame.now c.args.at c.args.from c.args.to c.fields_place-place.result c.requires.0 c.requires.2 c.requires.3 c.fields_place-place.ensures c.fields_at-held.ensures c.fields_at-expected.ensures (c.eq.ensures ∙ writers.same_of _ _) c.if-eq.false
