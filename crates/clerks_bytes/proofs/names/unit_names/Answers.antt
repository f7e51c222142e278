use Rattle.clerks_bytes.proofs.NameLaws.{units_named}
use Rattle.pens.proofs.Laws.{wrote_then, wrote_as}
use mathlib.Core.Path.{refl, ◌∙◌}
use mathlib.Core.List.{[]}
use Rattle.clerks_bytes.proofs.names.unit_names.Goals as goal

pub shape_of-out : goal.shape_of-out
shape_of-out c = c.byte.ensures.long ∙ (c.repeated-behind.ensures.long ∙ (c.new_entries-second.ensures.long ∙ (c.new_entries-first.ensures.long ∙ (c.new_entries-base.ensures.long ∙ c.repeated-head.ensures.long))))

pub returns : goal.returns
returns c = wrote_as (wrote_then (wrote_then (wrote_then (wrote_then (wrote_then c.repeated-head.ensures c.new_entries-base.ensures) c.new_entries-first.ensures) c.new_entries-second.ensures) c.repeated-behind.ensures) c.byte.ensures) (units_named c.args.order c.args.p.now c.args.q.now c.args.list.now c.args.one.now c.args.two.now [] _ refl c.field-field.ensures)
