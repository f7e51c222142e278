use mathlib.Core.Path.{◌∙◌}
use Rattle.state.proofs.Columns as columns
use Rattle.staged.proofs.Laws as laws
use Rattle.staged.proofs.staged_count.Goals as goal

pub returns : goal.returns
returns c = record { is = λ s h. c.from.ensures ∙ columns.counted laws.staged_column s c.args.work.now h }
