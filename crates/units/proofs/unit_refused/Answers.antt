use borrow.Author.Rules.{rules}
use Rattle.comparison.specs.Bytes.{meant_verdict}
use Rattle.units.proofs.Laws as laws
use Rattle.pens.proofs.Laws as pens
use Rattle.units.proofs.unit_refused.Goals as goal

pub returns : goal.returns
returns c = laws.refused_some (meant_verdict c.args.v) c.args.k (search rules) (pens.wrote_then c.byte.ensures c.byte-p.ensures) c.more-n.ensures
