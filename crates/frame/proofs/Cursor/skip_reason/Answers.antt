use Rattle.model.specs.Limits.{max_reason}
use Rattle.frame.proofs.Cursor.skip_reason.Goals as goal

pub returns : goal.returns
unfolding max_reason
returns c = c.skip_text.ensures
