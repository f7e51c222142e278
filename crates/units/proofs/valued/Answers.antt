use Rattle.pens.proofs.Laws as pens
use Rattle.units.proofs.valued.Goals as goal

pub returns : goal.returns
returns c = pens.wrote_then c.byte-p.ensures c.part.ensures
