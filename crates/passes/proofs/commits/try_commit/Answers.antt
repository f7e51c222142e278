use Rattle.passes.proofs.Committing as committing
use Rattle.passes.proofs.commits.try_commit.Goals as goal

pub returns-then-ready : goal.returns-then-ready
returns-then-ready c = committing.tries_it c.ready.ensures c.if-ready.true c.commit.ensures

pub returns : goal.returns
returns c = committing.leaves_it c.ready.ensures c.if-ready.false
