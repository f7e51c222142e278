use mathlib.Core.Path.{sym}
use Rattle.model.proofs.Sizes.{document01_length}
use Rattle.zagyvelon.proofs.bay_state_length.Goals as goal

pub returns : goal.returns
returns c = sym document01_length
