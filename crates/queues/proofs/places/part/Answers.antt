use Rattle.queues.proofs.Parts as parts
use Rattle.queues.proofs.places.part.Goals as goal

pub returns-then-to-from : goal.returns-then-to-from
returns-then-to-from c = parts.part_under c.args.src.now _ _ c.if-to-from.true

pub returns-then-src-to : goal.returns-then-src-to
returns-then-src-to c = parts.part_over c.args.src.now _ _ c.if-to-from.false c.if-src-to.true

pub returns : goal.returns
returns c = parts.part_in c.args.src.now _ _ c.if-to-from.false c.if-src-to.false
