use Rattle.access.proofs.Laws.{waiting_is}
use Rattle.wellformed.proofs.States.{entries_hold}
use Rattle.access.proofs.waiting.Goals as goal

pub count_of-requires : goal.count_of-requires
count_of-requires c = (entries_hold c.requires.keeps).1

pub returns : goal.returns
returns c = waiting_is c.args.state.now c.args.resource.now _ c.count_of.ensures
