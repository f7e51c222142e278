use Rattle.model.specs.State.{Staged}
use Rattle.staged.proofs.Laws as laws
use Rattle.staged.proofs.stage_unread.Goals as goal

pub returns : goal.returns
returns c = c.stage.ensures Staged.Unread (laws.unread_ok).0 (laws.unread_ok).1
