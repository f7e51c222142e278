use Rattle.pass_tables.proofs.Laws as laws
use Rattle.pass_tables.proofs.Names.clear.Goals as goal

pub clear-requires : goal.clear-requires
clear-requires c = (laws.room_in c.args.self c.region.result c.region.ensures c.args.work.now c.requires).0

pub returns-then-is_open : goal.returns-then-is_open
returns-then-is_open c = laws.emptied_in c.args.self c.region.result c.region.ensures c.args.work.now c.clear.new.work c.is_open.ensures c.if-is_open.true c.clear.ensures

pub returns-else-is_open : goal.returns-else-is_open
returns-else-is_open c = laws.unchanged _ c.args.work.now c.is_open.ensures c.if-is_open.false
