use borrow.Author.Rules.{rules}
use Rattle.comparison.specs.Bytes.{meant_verdict}
use Rattle.units.proofs.Laws as laws
use Rattle.pens.proofs.Laws as pens
use Rattle.units.proofs.unit_conflict.Goals as goal

pub returns : goal.returns
returns c = laws.conflict_some (meant_verdict c.args.v) c.args.k c.args.b.now c.args.o.now c.args.t.now (search rules) (pens.wrote_then c.byte.ensures (pens.wrote_then c.byte-p.ensures (pens.wrote_then c.valued-x.ensures (pens.wrote_then c.valued-y.ensures c.valued-z.ensures)))) c.more-n.ensures
