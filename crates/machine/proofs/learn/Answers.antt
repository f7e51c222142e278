use Rattle.machine.proofs.Steps as steps
use Rattle.machine.proofs.learn.Goals as goal

pub returns : goal.returns
returns c = steps.changed c.tried.ensures (steps.learned c.args.p _ c.next_request-next.result c.next_request-next.ensures c.learn-within.ensures)
