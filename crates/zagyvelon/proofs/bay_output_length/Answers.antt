use mathlib.Core.Path.{refl}
use Rattle.model.specs.Limits.{max_effects}
use Rattle.zagyvelon.proofs.bay_output_length.Goals as goal

pub returns : goal.returns
unfolding max_effects
returns c = refl
