use Rattle.merge.proofs.Laws as laws
use Rattle.merge.proofs.changed.Goals as goal

pub returns : goal.returns
returns c = laws.differ_is c.args.merged.now c.args.theirs.now _ _ _ c.event_of.ensures c.event_of-2.ensures c.same.ensures
