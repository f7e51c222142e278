use Rattle.attendees.proofs.Laws as laws
use Rattle.attendees.proofs.judging.judge.Goals as goal

pub returns-then-own : goal.returns-then-own
returns-then-own c = laws.judge_own_lem c.args.b.now c.args.o.now c.args.t.now _ c.args.own c.args.owner c.if-own.true c.judge_own.ensures

pub returns : goal.returns
returns c = laws.judge_whole_lem c.args.b.now c.args.o.now c.args.t.now _ c.args.own c.args.owner c.if-own.false c.judge_whole.ensures
