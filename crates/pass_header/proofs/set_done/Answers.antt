use Rattle.pass_tables.proofs.Laws as pass
use Rattle.pass_header.proofs.Laws as laws
use Rattle.pass_header.proofs.set_done.Goals as goal

pub field_of-done-requires : goal.field_of-done-requires
field_of-done-requires c = laws.short_long c.args.cursor.now c.requires.ok

pub returns-then-is_open : goal.returns-then-is_open
returns-then-is_open c = laws.done_set c.args.cursor.now c.field_of-done.result c.args.work.now c.put_slot.new.region c.requires.ok c.is_open.ensures c.if-is_open.true c.field_of-done.ensures c.put_slot.ensures

pub returns-else-is_open : goal.returns-else-is_open
returns-else-is_open c = pass.unchanged _ c.args.work.now c.is_open.ensures c.if-is_open.false
