use mathlib.Core.Path.{refl}
use Rattle.state.proofs.Ops as ops
use Rattle.waiting.proofs.Splices as splices
use Rattle.waiting.proofs.Laws as laws
use Rattle.state.specs.Values.{name_of}
use Rattle.waiting.proofs.Fields as fields
use Rattle.model.specs.Sync.{new_pending}
use native.Mathlib.Omega.{arith}
use borrow.Author.Rules.{rules}
use Rattle.waiting.proofs.changes.append.Goals as goal

pub returns-then-entries : goal.returns-then-entries
returns-then-entries c = λ e B. laws.appends_full (name_of c.args.name.bytes) c.args.work.now c.entries.result c.entries.ensures (search rules) (new_pending e)

pub overflow_add-i : goal.overflow_add-i
overflow_add-i c =
    let a = laws.end_count (name_of c.args.name.bytes) c.args.work.now c.waiting_count.result c.entries_before.result c.requires.has_state c.waiting_count.ensures c.entries_before.ensures in
    let b = laws.room_for c.args.work.now c.entries.result c.requires.has_state c.entries.ensures (search rules) in
    omega arith

pub open_entry-requires : goal.open_entry-requires
open_entry-requires c = record { has_slots = splices.has_slots c.requires.has_state; i_bound = (laws.end_count (name_of c.args.name.bytes) c.args.work.now c.waiting_count.result c.entries_before.result c.requires.has_state c.waiting_count.ensures c.entries_before.ensures, laws.room_for c.args.work.now c.entries.result c.requires.has_state c.entries.ensures (search rules)) }

pub fill_entry-requires : goal.fill_entry-requires
fill_entry-requires c = let a = laws.end_count (name_of c.args.name.bytes) c.args.work.now c.waiting_count.result c.entries_before.result c.requires.has_state c.waiting_count.ensures c.entries_before.ensures in
    let b = c.open_entry.ensures.count in
    let l = fields.edit_long (name_of c.args.name.bytes) c.args.id.now c.args.operation.now c.args.role.now c.args.expiry.now c.requires.named.1 in
    record { has_slots = c.open_entry.ensures.has; i_bound = (omega arith, l.0, l.1, l.2, l.3, omega (arith, ops.named_long c.args.name.bytes c.requires.named.0)) }

pub returns : goal.returns
returns c = laws.appends (name_of c.args.name.bytes) c.args.work.now c.open_entry.new.work c.fill_entry.new.work c.args.name.bytes c.args.id.now c.args.operation.now c.args.role.now c.args.expiry.now c.entries.result c.waiting_count.result c.entries_before.result c.requires.named.0 refl c.entries.ensures (search rules) c.waiting_count.ensures c.entries_before.ensures c.open_entry.ensures c.fill_entry.ensures
