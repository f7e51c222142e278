use Rattle.clerks_bytes.proofs.NameLaws.{rest_own, rest_other}
use Rattle.clerks_bytes.proofs.names.Order.rest.Goals as goal

pub returns-then-own : goal.returns-then-own
returns-then-own c = rest_own c.args.self _ c.args.own c.if-own.true c.named.ensures

pub returns : goal.returns
returns c = rest_other c.args.self _ c.args.own c.if-own.false c.field.ensures
