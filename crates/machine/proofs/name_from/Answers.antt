use Rattle.machine.proofs.Names as names
use Rattle.machine.proofs.name_from.Goals as goal

pub text-end-requires : goal.text-end-requires
text-end-requires c = names.short c.args.text.now c.requires

pub returns : goal.returns
returns c = names.named c.args.text.now c.requires c.text-end.ensures
