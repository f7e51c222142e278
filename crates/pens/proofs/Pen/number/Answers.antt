use Rattle.pens.proofs.Laws.{wrote_number}
use Rattle.pens.proofs.Pen.number.Goals as goal

pub returns : goal.returns
returns c = wrote_number c.args.n c.byte-a.ensures c.digit.ensures c.byte-b.ensures c.digit-2.ensures c.byte-c.ensures c.digit-3.ensures c.byte-d.ensures c.digit-4.ensures c.byte-e.ensures c.digit-5.ensures c.byte-f.ensures c.digit-6.ensures c.byte-g.ensures c.digit-7.ensures c.byte.ensures c.digit-8.ensures

pub shape_of-out : goal.shape_of-out
shape_of-out c = (returns c).long
