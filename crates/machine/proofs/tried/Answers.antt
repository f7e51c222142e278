use Rattle.machine.proofs.Steps as steps
use Rattle.machine.proofs.tried.Goals as goal

pub returns-then-p-ne0 : goal.returns-then-p-ne0
returns-then-p-ne0 c = steps.tried_stopped c.args.p c.args.within c.if-p-ne0.true

pub returns-then-within : goal.returns-then-within
returns-then-within c = steps.tried_in c.args.p c.args.within c.if-p-ne0.false c.if-within.true

pub returns : goal.returns
returns c = steps.tried_out c.args.p c.args.within c.if-p-ne0.false c.if-within.false
