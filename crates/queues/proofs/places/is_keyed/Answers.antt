use Rattle.queues.proofs.Parts as parts
use Rattle.queues.proofs.places.is_keyed.Goals as goal

pub returns-then-src-at-eq0 : goal.returns-then-src-at-eq0
returns-then-src-at-eq0 c = parts.both_yes c.args.src.now c.args.at c.if-src-at-eq0.true

pub returns : goal.returns
returns c = parts.both_no c.args.src.now c.args.at c.if-src-at-eq0.false
