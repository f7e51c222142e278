use Rattle.pens.proofs.Laws as laws
use Rattle.pens.proofs.Pen.text.Goals as goal

pub returns : goal.returns
returns c = laws.wrote_then c.byte-p.ensures c.part.ensures
