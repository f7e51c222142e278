use Rattle.model.specs.Limits.{max_id}
use Rattle.frame.proofs.resource_at.Goals as goal

pub returns : goal.returns
unfolding max_id
returns c = c.text_at.ensures
