use Rattle.clerks_bytes.proofs.NameLaws.{new_before, new_also, new_neither}
use Rattle.pens.proofs.Laws.{wrote_nothing, wrote_as}
use Rattle.clerks_bytes.proofs.names.new_entry.Goals as goal

pub returns-then-stands : goal.returns-then-stands
returns-then-stands c = wrote_as (wrote_nothing c.args.out.now c.args.pen) (new_before c.args.order c.args.p.now c.args.q.now c.args.list.now c.args.before.now c.args.also.now c.args.address.now _ c.stands.ensures c.if-stands.true)

pub returns-then-stands-2 : goal.returns-then-stands-2
returns-then-stands-2 c = wrote_as (wrote_nothing c.args.out.now c.args.pen) (new_also c.args.order c.args.p.now c.args.q.now c.args.list.now c.args.before.now c.args.also.now c.args.address.now _ c.stands.ensures c.if-stands.false _ c.stands-2.ensures c.if-stands-2.true)

pub shape_of-out : goal.shape_of-out
shape_of-out c = c.entry_names.ensures.long

pub returns : goal.returns
returns c = wrote_as c.entry_names.ensures (new_neither c.args.order c.args.p.now c.args.q.now c.args.list.now c.args.before.now c.args.also.now c.args.address.now _ c.stands.ensures c.if-stands.false _ c.stands-2.ensures c.if-stands-2.false)
