use Rattle.merge.specs.Reports.{report_items}
use Rattle.merge.proofs.Laws as laws
use Rattle.pens.proofs.Laws as pens
use mathlib.Core.Path.{ap, ◌∙◌}
use Rattle.merge.proofs.reports.Goals as goal

pub returns : goal.returns
returns c = pens.listed_as (pens.listed_then c.units-h.ensures (pens.listed_then c.entries-i.ensures c.units.ensures)) (laws.reports_are c.args.owner c.args.me.now c.args.base.now c.args.ours.now c.args.theirs.now _ _ _ c.unit_part.ensures c.unit_part-2.ensures c.unit_part-3.ensures c.number-number.result
    ∙ ap (λ w. report_items w c.args.owner c.args.me.now c.args.base.now c.args.ours.now c.args.theirs.now) c.number-number.ensures)
