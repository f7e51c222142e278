use Rattle.model.specs.Limits.{max_text}
use Rattle.frame.proofs.Cursor.skip_option_short_text.Goals as goal

pub returns : goal.returns
unfolding max_text
returns c = c.skip_option_text.ensures
