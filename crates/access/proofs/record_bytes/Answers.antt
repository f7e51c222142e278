use Rattle.access.proofs.Laws.{no_record, record_read, record_room, event_inside}
use mathlib.Core.Path.{refl}
use Prim.Native.Nat.{◌+◌, ◌*◌}
use native.Mathlib.Omega.{arith}
use borrow.Author.Rules.{rules}
use Rattle.access.proofs.record_bytes.Goals as goal

pub returns-then-n-i : goal.returns-then-n-i
returns-then-n-i c = (refl, no_record c.args.state.now c.record_count-n.result c.args.i c.record_count-n.ensures c.if-n-i.true, search rules, search rules)

pub overflow_mul-past : goal.overflow_mul-past
overflow_mul-past c = let m = record_room c.args.state.now c.record_count-n.result c.args.i c.requires c.record_count-n.ensures c.if-n-i.false in omega arith

pub overflow_add-key : goal.overflow_add-key
overflow_add-key c = let m = record_room c.args.state.now c.record_count-n.result c.args.i c.requires c.record_count-n.ensures c.if-n-i.false in omega arith

pub overflow_add-name : goal.overflow_add-name
overflow_add-name c = let m = record_room c.args.state.now c.record_count-n.result c.args.i c.requires c.record_count-n.ensures c.if-n-i.false in omega arith

pub overflow_add-event : goal.overflow_add-event
overflow_add-event c = let m = record_room c.args.state.now c.record_count-n.result c.args.i c.requires c.record_count-n.ensures c.if-n-i.false in omega arith

pub byte_at-size-requires : goal.byte_at-size-requires
byte_at-size-requires c = let m = record_room c.args.state.now c.record_count-n.result c.args.i c.requires c.record_count-n.ensures c.if-n-i.false in omega arith

pub event_end-extent-requires : goal.event_end-extent-requires
event_end-extent-requires c = let m = record_room c.args.state.now c.record_count-n.result c.args.i c.requires c.record_count-n.ensures c.if-n-i.false in omega arith

pub returns : goal.returns
returns c =
    let m = record_room c.args.state.now c.record_count-n.result c.args.i c.requires c.record_count-n.ensures c.if-n-i.false in
    (refl, record_read c.args.state.now c.record_count-n.result c.args.i c.byte_at-size.result c.event_end-extent.result c.record_count-n.ensures c.if-n-i.false c.byte_at-size.ensures.0 c.event_end-extent.ensures, omega arith, event_inside c.args.state.now (34 + c.args.i * 915) c.event_end-extent.result (omega arith) c.event_end-extent.ensures)
