use Rattle.attendees.proofs.Laws as laws
use Rattle.pens.proofs.Laws as pens
use Rattle.attendees.proofs.reporting.entry_value.Goals as goal

pub returns-then-entry-eq0 : goal.returns-then-entry-eq0
returns-then-entry-eq0 c = pens.listed_as (pens.listed_none c.args.out.now c.args.sheet.pen c.args.sheet.count) (laws.value_none c.args.entry.now c.args.reply c.if-entry-eq0.true)

pub returns : goal.returns
returns c = pens.listed_as (pens.listed_one _ _ (pens.wrote_then c.part.ensures (pens.wrote_then c.byte.ensures c.byte-p.ensures)) c.more-n.ensures) (laws.value_some c.args.entry.now _ c.args.reply _ c.if-entry-eq0.false c.head.ensures c.kind.ensures)
