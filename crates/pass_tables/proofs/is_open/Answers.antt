use Rattle.pass_tables.proofs.Laws as laws
use Rattle.pass_tables.proofs.is_open.Goals as goal

pub returns : goal.returns
returns c = laws.reads_open c.args.work.now
