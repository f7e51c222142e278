use Rattle.attendees.proofs.Laws as laws
use Rattle.pens.proofs.Laws as pens
use Rattle.attendees.proofs.reporting.side.Goals as goal

pub returns-then-entry-eq0 : goal.returns-then-entry-eq0
returns-then-entry-eq0 c = pens.wrote_as (pens.wrote_then c.byte-p.ensures c.byte.ensures) (laws.side_none c.args.entry.now c.if-entry-eq0.true)

pub returns : goal.returns
returns c = pens.wrote_as (pens.wrote_then c.byte-p.ensures (pens.wrote_then c.byte-2.ensures c.part.ensures)) (laws.side_some c.args.entry.now c.if-entry-eq0.false)
