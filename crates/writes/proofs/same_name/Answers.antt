use mathlib.Core.Path.{ap₂, ◌∙◌}
use Rattle.model.specs.Maps.{same_text}
use Rattle.queues.proofs.Writers.{same_of}
use Rattle.writes.proofs.same_name.Goals as goal

pub returns : goal.returns
returns c = c.eq.ensures ∙ same_of _ _ ∙ ap₂ same_text c.text_of.ensures c.text_of-2.ensures
