use Rattle.state.specs.Values.{name_of}
use Rattle.machine.proofs.Steps as steps
use Rattle.queues.proofs.Heads as heads
use Rattle.queues.proofs.Notices as notices
use native.Mathlib.Omega.{arith}
use Rattle.queues.proofs.head.send_create.Goals as goal

pub overflow_add-at : goal.overflow_add-at
overflow_add-at c = let h = heads.keyed_room 0 (name_of c.args.name.bytes) c.args.work.now c.in-Some.at c.find_entry.result c.requires.has_state c.find_entry.ensures c.in-Some.is in
    let L = c.requires.has_state.keeps.long in
    omega arith

pub create-pen-requires : goal.create-pen-requires
create-pen-requires c = steps.short_text _ _ c.text_of-resource.ensures c.requires.named

pub returns-in-Some : goal.returns-in-Some
returns-in-Some c = notices.create_sent (name_of c.args.name.bytes) c.args.work.now c.find_entry.result c.find_entry.ensures c.in-Some.at c.args.id c.in-Some.is c.event_at-event.ensures c.text_of-resource.ensures c.pen_of.ensures c.create-pen.ensures c.sent.ensures

pub returns-in-None : goal.returns-in-None
returns-in-None c = notices.create_none (name_of c.args.name.bytes) c.args.work.now c.find_entry.result c.find_entry.ensures c.args.id c.args.out.now c.args.p c.in-None.is
