use Rattle.merge.proofs.Laws as laws
use Rattle.merge.proofs.event_of.Goals as goal

pub returns : goal.returns
returns c = laws.event_is c.args.bytes.now _ _ c.event_in-c.ensures c.part.ensures
