use Rattle.attendees.proofs.Laws as laws
use Rattle.attendees.proofs.entry_parts.same_rest.Goals as goal

pub returns-then-same : goal.returns-then-same
returns-then-same c = laws.rest_heads c.args.a.now c.args.b.now _ _ _ c.same.ensures c.head.ensures c.head-2.ensures c.if-same.true _ _ c.kind.ensures c.kind-then-same.ensures

pub returns : goal.returns
returns c = laws.rest_differs c.args.a.now c.args.b.now _ _ _ c.same.ensures c.head.ensures c.head-2.ensures c.if-same.false
