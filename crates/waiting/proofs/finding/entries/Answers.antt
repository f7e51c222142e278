use Rattle.waiting.proofs.Splices as splices
use Rattle.waiting.proofs.finding.entries.Goals as goal

pub returns : goal.returns
returns c = splices.reads_all c.args.work.now _ c.from.ensures
