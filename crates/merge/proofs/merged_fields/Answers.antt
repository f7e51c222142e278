use Rattle.merge.proofs.Laws as laws
use Rattle.pens.proofs.Laws as pens
use Rattle.merge.proofs.merged_fields.Goals as goal

pub returns : goal.returns
returns c = pens.wrote_as (pens.wrote_then c.units-h.ensures.pen (pens.wrote_then c.byte-q.ensures (pens.wrote_then c.entries-i.ensures.pen c.units-j.ensures.pen))) (laws.fields_are c.args.owner c.args.me.now c.args.base.now c.args.ours.now c.args.theirs.now _ _ _ c.unit_part.ensures c.unit_part-2.ensures c.unit_part-3.ensures _ c.args.n c.number-merged.ensures)

pub shape_of-out : goal.shape_of-out
shape_of-out c = (returns c).long
