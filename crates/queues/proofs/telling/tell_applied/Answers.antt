use borrow.Author.Rules.{rules}
use Rattle.state.specs.Values.{name_of}
use mathlib.Core.Path.{◌≡◌}
use Rattle.queues.proofs.Parts as parts
use Rattle.queues.proofs.Heads as heads
use Rattle.queues.proofs.Notices as notices
use lib.ListN.{length}
use native.Mathlib.Omega.{arith}
use Rattle.queues.proofs.telling.tell_applied.Goals as goal

pub overflow_add-at : goal.overflow_add-at
overflow_add-at c = let h = heads.keyed_room c.args.j (name_of c.args.name.bytes) c.args.work.now c.in-Some.at c.find_entry.result c.requires.has_state c.find_entry.ensures c.in-Some.is in
    let L = c.requires.has_state.keeps.long in
    omega arith

pub overflow_add-at-in-Some : goal.overflow_add-at-in-Some
overflow_add-at-in-Some c = let h = heads.keyed_room c.args.j (name_of c.args.name.bytes) c.args.work.now c.in-Some.at c.find_entry.result c.requires.has_state c.find_entry.ensures c.in-Some.is in
    let L = c.requires.has_state.keeps.long in
    omega arith

pub applied-pen-requires : goal.applied-pen-requires
applied-pen-requires c = let L : length c.args.id.bytes ≡ 33 = search rules in
    parts.text_short _ _ c.text_of-edit.ensures L

pub returns-in-Some : goal.returns-in-Some
returns-in-Some c = notices.applied_sent c.args.j (name_of c.args.name.bytes) c.args.work.now c.find_entry.result c.find_entry.ensures c.in-Some.at (name_of c.args.id.bytes) c.in-Some.is c.conflicts_at-conflicts.ensures c.refused_at-refused.ensures c.text_of-edit.ensures c.pen_of.ensures c.applied-pen.ensures c.sent.ensures

pub returns-in-None : goal.returns-in-None
returns-in-None c = notices.applied_none c.args.j (name_of c.args.name.bytes) c.args.work.now c.find_entry.result c.find_entry.ensures (name_of c.args.id.bytes) c.args.out.now c.args.p c.in-None.is
