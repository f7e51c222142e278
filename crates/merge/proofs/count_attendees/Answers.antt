use Rattle.merge.specs.Reports.{attendee_items}
use Rattle.merge.proofs.Laws as laws
use mathlib.Core.Path.{ap, ◌∙◌}
use Rattle.merge.proofs.count_attendees.Goals as goal

pub returns : goal.returns
returns c = laws.counted c.entries-h.ensures (laws.attendees_are c.args.owner c.args.me.now c.args.base.now c.args.ours.now c.args.theirs.now _ _ _ c.unit_part.ensures c.unit_part-2.ensures c.unit_part-3.ensures c.number.result
    ∙ ap (λ w. attendee_items w c.args.owner c.args.me.now c.args.base.now c.args.ours.now c.args.theirs.now) c.number.ensures)
