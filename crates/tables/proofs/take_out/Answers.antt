use Rattle.tables.proofs.Laws as laws
use Rattle.tables.proofs.take_out.Goals as goal

pub returns : goal.returns
returns c = λ t z e. laws.take_out c.requires.tab c.close_slot.new.region t c.args.i z e c.requires.i_bound c.close_slot.ensures
