use Rattle.clerks_bytes.proofs.WriteLaws.{order_is}
use Rattle.clerks_bytes.proofs.writes.order.Goals as goal

pub returns : goal.returns
returns c = order_is c.args.frame.now c.args.p c.args.q c.from.ensures c.is_owner-first_owner.ensures c.from-2.ensures c.is_owner-second_owner.ensures
