use Rattle.machine.proofs.Steps as steps
use Rattle.machine.proofs.tell_synced.Goals as goal

pub returns : goal.returns
returns c = steps.told c.pen_of.ensures c.synced-pen.ensures c.sent.ensures
