use Rattle.attendees.proofs.Laws as laws
use Rattle.attendees.proofs.judging.judge_own.Goals as goal

pub returns-then-b-eq0 : goal.returns-then-b-eq0
returns-then-b-eq0 c = laws.own_new c.args.b.now c.args.o.now c.args.t.now _ c.if-b-eq0.true c.judge_whole.ensures

pub returns-then-o-eq0 : goal.returns-then-o-eq0
returns-then-o-eq0 c = laws.own_left c.args.b.now c.args.o.now c.args.t.now _ c.if-b-eq0.false c.if-o-eq0.true c.judge_whole-then-o-eq0.ensures

pub returns-then-t-eq0 : goal.returns-then-t-eq0
returns-then-t-eq0 c = laws.own_removed c.args.b.now c.args.o.now c.args.t.now _ c.if-b-eq0.false c.if-o-eq0.false c.if-t-eq0.true c.judge_removed.ensures

pub returns : goal.returns
returns c = laws.own_standing c.args.b.now c.args.o.now c.args.t.now _ c.if-b-eq0.false c.if-o-eq0.false c.if-t-eq0.false c.judge_standing.ensures
