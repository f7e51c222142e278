use Rattle.observe.proofs.Reading as reading
use Rattle.machine.proofs.Steps as steps
use Rattle.observe.proofs.open_pass.see.Goals as goal

pub returns : goal.returns
returns c = steps.changed c.tried.ensures (reading.seen_tries c.args.p _ c.add-within.ensures)
