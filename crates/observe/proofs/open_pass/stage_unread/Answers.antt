use Rattle.observe.proofs.Reading as reading
use Rattle.machine.proofs.Steps as steps
use Rattle.observe.proofs.open_pass.stage_unread.Goals as goal

pub returns : goal.returns
returns c = steps.changed c.tried.ensures (reading.staged_tries c.args.p _ _ c.stage_unread-within.ensures)
