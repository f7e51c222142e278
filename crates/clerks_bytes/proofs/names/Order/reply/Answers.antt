use Rattle.clerks_bytes.proofs.NameLaws.{reply_own, reply_other, reply_neither}
use mathlib.Core.Path.{refl}
use Rattle.clerks_bytes.proofs.names.Order.reply.Goals as goal

pub returns-then-own : goal.returns-then-own
returns-then-own c = reply_own c.args.self _ c.args.own c.args.other c.if-own.true refl

pub returns-then-other : goal.returns-then-other
returns-then-other c = reply_other c.args.self _ c.args.own c.args.other c.if-own.false c.if-other.true c.named.ensures

pub returns : goal.returns
returns c = reply_neither c.args.self _ c.args.own c.args.other c.if-own.false c.if-other.false c.field.ensures
