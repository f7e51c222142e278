use Rattle.machine.proofs.Steps as steps
use Rattle.machine.proofs.text_of.Goals as goal

pub returns : goal.returns
returns c = steps.text_part c.args.key.now _ c.text_len-end.result c.text_len-end.ensures.1
