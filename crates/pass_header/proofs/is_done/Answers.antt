use Rattle.pass_header.proofs.Laws as laws
use Rattle.pass_header.proofs.is_done.Goals as goal

pub returns : goal.returns
returns c = laws.done_read c.args.work.now
