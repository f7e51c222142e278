use mathlib.Core.Path.{◌∙◌}
use Rattle.state.proofs.Columns as columns
use Rattle.state.proofs.Ops as ops
use Rattle.state.proofs.alias_count.Goals as goal

pub returns : goal.returns
returns c = record { is = λ s h. c.from.ensures ∙ columns.counted ops.alias_column s c.args.work.now h }
