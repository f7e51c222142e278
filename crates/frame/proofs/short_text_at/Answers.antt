use Rattle.model.specs.Limits.{max_text}
use Rattle.frame.proofs.short_text_at.Goals as goal

pub returns : goal.returns
unfolding max_text
returns c = c.text_at.ensures
