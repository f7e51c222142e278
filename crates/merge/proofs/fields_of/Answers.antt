use Rattle.merge.proofs.Laws as laws
use Rattle.merge.proofs.fields_of.Goals as goal

pub returns : goal.returns
returns c = laws.of_is c.args.event.now _ _ _ c.fields_place-c.ensures c.fields_end-d.ensures c.part.ensures
