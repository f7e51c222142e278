use Rattle.clerks_bytes.proofs.LineLaws.{named_by, line_written}
use Rattle.clerks_bytes.proofs.writes.line.Goals as goal

pub shape_of-work : goal.shape_of-work
shape_of-work c = c.first_write.ensures.long

pub returns : goal.returns
returns c =
    line_written c.args.frame.now c.args.c c.args.p c.args.q c.first_write.ensures c.fields_of-base.ensures c.from-3.ensures c.from-second.ensures c.merged_event-event.ensures
    (named_by c.args.frame.now c.args.c c.args.p c.args.q c.order-who.ensures c.from-first.ensures c.from-second.ensures c.fields_of-base.ensures c.list_of.ensures c.from.ensures c.list_of-one.ensures c.from-2.ensures c.list_of-two.ensures c.unit_names-end.ensures)
