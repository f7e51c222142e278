use Rattle.engine.proofs.Laws as laws
use Rattle.engine.proofs.zero_from.Goals as goal

pub returns : goal.returns
returns c = laws.zeroed c.args.s.now c.args.at c.zero.new.s c.requires c.zero.ensures
