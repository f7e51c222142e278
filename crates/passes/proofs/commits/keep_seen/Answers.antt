use Rattle.passes.proofs.Committing as committing
use Rattle.passes.proofs.commits.keep_seen.Goals as goal

pub returns-then-is_full : goal.returns-then-is_full
returns-then-is_full c = committing.keeps_seen c.is_full.ensures c.if-is_full.true c.retain_seen.ensures

pub returns-else-is_full : goal.returns-else-is_full
returns-else-is_full c = committing.keeps_all c.is_full.ensures c.if-is_full.false
