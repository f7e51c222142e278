use Rattle.std.proofs.Common.{arith, refl}
use Rattle.waiting.proofs.Writes as writes
use Rattle.waiting.proofs.slots.open_entry.Goals as goal

pub open_slot-requires : goal.open_slot-requires
open_slot-requires c =
    let l = writes.slots_long c.requires.has_slots in
    let d = writes.part_count c.requires.has_slots in
    let e = writes.part_long c.requires.has_slots in
    (omega arith, omega arith, omega arith)

pub returns : goal.returns
returns c = writes.opens c.args.i c.args.work.now _ c.open_slot.new.region c.requires.has_slots c.requires.i_bound.0 c.requires.i_bound.1 c.open_slot.ensures refl
