use mathlib.Core.Path.{refl, ◌∙◌}
use Rattle.engine.proofs.Laws as laws
use Rattle.engine.proofs.accepted.Goals as goal

pub returns : goal.returns
returns c = (refl, refl, c.copy_into.ensures ∙ laws.copied _ _ c.requires.0, c.zero.ensures, c.zero_from.ensures)
