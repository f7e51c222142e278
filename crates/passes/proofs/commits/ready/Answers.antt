use Rattle.passes.proofs.Committing as committing
use Rattle.passes.proofs.commits.ready.Goals as goal

pub returns-then-any_unread : goal.returns-then-any_unread
returns-then-any_unread c = committing.not_ready c.any_unread.ensures c.if-any_unread.true

pub returns : goal.returns
returns c = committing.ready_done c.any_unread.ensures c.if-any_unread.false c.is_done.ensures
