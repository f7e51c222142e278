use mathlib.Core.Path.{refl}
use Rattle.state.proofs.Ops as ops
use Rattle.waiting.proofs.Splices as splices
use Rattle.waiting.proofs.Laws as laws
use Rattle.state.specs.Values.{name_of}
use Rattle.waiting.proofs.Moves as moves
use native.Mathlib.Omega.{arith}
use Rattle.waiting.proofs.moving.join_entry.Goals as goal

pub overflow_add-i : goal.overflow_add-i
overflow_add-i c =
    let a = laws.end_count (name_of c.args.name.bytes) c.args.work.now c.waiting_count.result c.entries_before.result c.requires.has_state c.waiting_count.ensures c.entries_before.ensures in
    let b = c.requires.named.1 in
    omega arith

pub open_entry-requires : goal.open_entry-requires
open_entry-requires c = record { has_slots = splices.has_slots c.requires.has_state; i_bound = (laws.end_count (name_of c.args.name.bytes) c.args.work.now c.waiting_count.result c.entries_before.result c.requires.has_state c.waiting_count.ensures c.entries_before.ensures, c.requires.named.1) }

pub write_field-requires : goal.write_field-requires
write_field-requires c = let a = laws.end_count (name_of c.args.name.bytes) c.args.work.now c.waiting_count.result c.entries_before.result c.requires.has_state c.waiting_count.ensures c.entries_before.ensures in
    let b = c.open_entry.ensures.count in
    record { has_slots = c.open_entry.ensures.has; i_bound = (omega arith, omega arith, c.requires.named.2) }

pub write_field-requires-2 : goal.write_field-requires-2
write_field-requires-2 c = let a = laws.end_count (name_of c.args.name.bytes) c.args.work.now c.waiting_count.result c.entries_before.result c.requires.has_state c.waiting_count.ensures c.entries_before.ensures in
    let b = c.open_entry.ensures.count in
    let d = c.write_field.ensures.count in
    let l = ops.named_long c.args.name.bytes c.requires.named.0 in
    record { has_slots = c.write_field.ensures.has; i_bound = (omega arith, omega arith, omega arith) }

pub returns : goal.returns
returns c = moves.slot_joins (name_of c.args.name.bytes) c.args.work.now c.open_entry.new.work c.write_field.new.work c.write_field-2.new.work c.args.name.bytes c.args.slot.now c.waiting_count.result c.entries_before.result c.requires.named.0 refl c.open_entry.ensures.count (laws.end_count (name_of c.args.name.bytes) c.args.work.now c.waiting_count.result c.entries_before.result c.requires.has_state c.waiting_count.ensures c.entries_before.ensures) c.waiting_count.ensures c.entries_before.ensures c.open_entry.ensures c.write_field.ensures c.write_field-2.ensures
