use Rattle.merge.proofs.Laws as laws
use mathlib.Core.Path.{refl}
use Rattle.merge.proofs.count_reports.Goals as goal

pub returns : goal.returns
returns c = laws.counted c.reports-h.ensures refl
