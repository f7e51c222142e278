use native.Mathlib.Omega.{arith}
use Rattle.pass_tables.proofs.Laws as laws
use Rattle.pass_tables.proofs.Names.count.Goals as goal

pub bounds-work-region : goal.bounds-work-region
bounds-work-region c = omega (arith, laws.room_in c.args.self c.region.result c.region.ensures c.args.work.now c.requires)

pub returns : goal.returns
returns c = laws.count_in c.args.self c.region.result c.region.ensures c.args.work.now c.from.result c.from.ensures
