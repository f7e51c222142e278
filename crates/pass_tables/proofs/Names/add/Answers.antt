use Rattle.pass_tables.proofs.Laws as laws
use Rattle.pass_tables.proofs.Names.add.Goals as goal

pub returns-then-not-is_open : goal.returns-then-not-is_open
returns-then-not-is_open c = laws.add_closed (laws.roster c.args.self) _ c.args.work.now c.is_open.ensures c.if-not-is_open.true

pub insert-requires : goal.insert-requires
insert-requires c = record {
  lent = laws.lent_in c.args.self c.region.result c.region.ensures c.args.work.now c.requires.has_state;
  slot_len = laws.slot_in c.args.self c.region.result c.region.ensures c.args.name.bytes c.requires.named;
}

pub returns : goal.returns
returns c = laws.added_in c.args.self c.region.result c.region.ensures c.args.name.bytes c.args.work.now c.insert.new.work _ c.requires.named c.is_open.ensures c.if-not-is_open.false c.insert.ensures
