use mathlib.Core.Path.{◌∙◌}
use Rattle.state.proofs.Columns as columns
use Rattle.records.proofs.Laws as laws
use Rattle.records.proofs.record_count.Goals as goal

pub returns : goal.returns
returns c = record { is = λ s h. c.from.ensures ∙ columns.counted laws.record_column s c.args.work.now h }
