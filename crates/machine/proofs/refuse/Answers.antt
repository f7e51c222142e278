use mathlib.Core.Path.{sym}
use Rattle.machine.proofs.Steps as steps
use Rattle.machine.proofs.refuse.Goals as goal

pub returns-then-p-ne0 : goal.returns-then-p-ne0
returns-then-p-ne0 c = sym (steps.stopped c.args.p _ c.if-p-ne0.true)

pub returns : goal.returns
returns c = sym (steps.going c.args.p _ c.if-p-ne0.false)
