use Rattle.std.proofs.Common.{sym, arith}
use Rattle.tables.proofs.Laws as laws
use Rattle.tables.proofs.try_insert.Goals as goal

pub returns-in-Ok : goal.returns-in-Ok
returns-in-Ok c =
    λ t z e f. laws.try_found c.args.stride c.args.limit c.args.region.now c.put_slot.new.region c.args.slot.now t c.in-Ok.at z e f c.requires.slot_len.0 (sym c.in-Ok.ensures) c.put_slot.ensures

pub returns-then-limit-from : goal.returns-then-limit-from
returns-then-limit-from c =
    λ t z e f. laws.try_full c.args.stride c.args.limit _ c.args.region.now c.args.slot.now t c.in-Err.at z e c.from.ensures c.if-limit-from.true (sym c.in-Err.ensures)

pub returns-else-limit-from : goal.returns-else-limit-from
returns-else-limit-from c =
    λ t z e f. laws.try_missing (laws.tab_room c.requires.tab c.args.limit c.requires.slot_len.1 c.requires.slot_len.2 (omega arith)) c.args.limit c.open_slot.new.region c.put_slot-in-Err.new.region c.args.slot.now t c.in-Err.at z e (omega arith) c.requires.slot_len.0 (sym c.in-Err.ensures) c.open_slot.ensures c.put_slot-in-Err.ensures
