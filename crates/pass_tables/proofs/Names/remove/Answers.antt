use Rattle.pass_tables.proofs.Laws as laws
use Rattle.pass_tables.proofs.Names.remove.Goals as goal

pub remove-requires-clause-lent : goal.remove-requires-clause-lent
remove-requires-clause-lent c = laws.lent_in c.args.self c.region.result c.region.ensures c.args.work.now c.requires.has_state

pub returns-then-is_open : goal.returns-then-is_open
returns-then-is_open c = laws.deleted_in c.args.self c.region.result c.region.ensures c.args.name.bytes c.args.work.now c.remove.new.work c.requires.named c.is_open.ensures c.if-is_open.true c.remove.ensures

pub returns-else-is_open : goal.returns-else-is_open
returns-else-is_open c = laws.unchanged _ c.args.work.now c.is_open.ensures c.if-is_open.false
