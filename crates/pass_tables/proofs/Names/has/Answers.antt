use Rattle.pass_tables.proofs.Laws as laws
use Rattle.pass_tables.proofs.Names.has.Goals as goal

pub find-requires-clause-lent : goal.find-requires-clause-lent
find-requires-clause-lent c = laws.lent_in c.args.self c.region.result c.region.ensures c.args.work.now c.requires.has_state

pub returns : goal.returns
returns c = rw c.is_ok.ensures.value (laws.has_in c.args.self c.region.result c.region.ensures c.args.name.bytes c.args.work.now c.find.result c.find.ensures)
