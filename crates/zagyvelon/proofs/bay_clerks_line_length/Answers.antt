use mathlib.Core.Path.{sym}
use Rattle.clerks_bytes.proofs.BufferLaws.{line_is}
use Rattle.zagyvelon.proofs.bay_clerks_line_length.Goals as goal

pub returns : goal.returns
returns c = sym line_is
