use Rattle.model.specs.State.{Staged}
use Rattle.staged.proofs.Laws as laws
use Rattle.staged.proofs.stage_removed.Goals as goal

pub returns : goal.returns
returns c = c.stage.ensures Staged.Removed (laws.removed_ok).0 (laws.removed_ok).1
