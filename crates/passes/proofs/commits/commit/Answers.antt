use Rattle.passes.proofs.Committing as committing
use Rattle.passes.proofs.commits.commit.Goals as goal

pub returns-then-count-eq0 : goal.returns-then-count-eq0
returns-then-count-eq0 c = committing.commits c.count.ensures c.if-count-eq0.true c.apply_pass.ensures

pub returns : goal.returns
returns c = committing.reads_on c.count.ensures c.if-count-eq0.false c.read_observed.ensures
