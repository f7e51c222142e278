use mathlib.Core.Path.{◌∙◌}
use Rattle.queues.proofs.Writers.{same_of}
use Rattle.writes.proofs.Plans as plans
use Rattle.writes.proofs.Entry.same_fields.Goals as goal

pub returns : goal.returns
returns c = plans.fields_same c.operation_part.ensures c.fields_of.ensures c.fields_of-2.ensures (c.eq.ensures ∙ same_of _ _)
