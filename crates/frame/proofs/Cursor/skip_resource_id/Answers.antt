use Rattle.model.specs.Limits.{max_id}
use Rattle.frame.proofs.Cursor.skip_resource_id.Goals as goal

pub returns : goal.returns
unfolding max_id
returns c = c.skip_text.ensures
