use Rattle.machine.proofs.Steps as steps
use Rattle.machine.proofs.sent.Goals as goal

pub returns-then-p-ne0 : goal.returns-then-p-ne0
returns-then-p-ne0 c = steps.sent_stopped c.args.p c.args.pen c.if-p-ne0.true

pub returns-then-pen : goal.returns-then-pen
returns-then-pen c = steps.sent_on c.args.p c.args.pen c.if-p-ne0.false c.if-pen.true

pub returns : goal.returns
returns c = steps.sent_full c.args.p c.args.pen c.if-p-ne0.false c.if-pen.false
