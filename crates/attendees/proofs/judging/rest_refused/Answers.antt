use Rattle.attendees.proofs.Laws as laws
use Rattle.attendees.proofs.judging.rest_refused.Goals as goal

pub returns-then-same_rest : goal.returns-then-same_rest
returns-then-same_rest c = laws.rest_kept c.args.b.now c.args.o.now c.args.t.now _ c.same_rest.ensures c.if-same_rest.true

pub returns : goal.returns
returns c = laws.rest_other c.args.b.now c.args.o.now c.args.t.now _ c.same_rest.ensures c.if-same_rest.false _ c.same_rest-2.ensures
