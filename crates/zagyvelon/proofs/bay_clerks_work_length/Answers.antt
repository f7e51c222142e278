use mathlib.Core.Path.{sym}
use Rattle.clerks_bytes.proofs.BufferLaws.{work_is}
use Rattle.zagyvelon.proofs.bay_clerks_work_length.Goals as goal

pub returns : goal.returns
returns c = sym work_is
