use Rattle.pass_tables.proofs.Laws as laws
use Rattle.pass_tables.proofs.is_full.Goals as goal

pub returns : goal.returns
returns c = laws.reads_full c.args.work.now
