use Rattle.lent.proofs.Laws as laws
use Rattle.lent.proofs.Region.take_out.Goals as goal

pub take_out-requires-clause-i_bound : goal.take_out-requires-clause-i_bound
take_out-requires-clause-i_bound c = laws.lent_count c.args.i c.requires.0 c.requires.1
