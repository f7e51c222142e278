use Rattle.state.specs.Values.{name_of}
use Rattle.queues.proofs.Heads as heads
use native.Mathlib.Omega.{arith}
use Rattle.queues.proofs.reading.looks_up.Goals as goal

pub overflow_add-at : goal.overflow_add-at
overflow_add-at c = let h = heads.keyed_room 0 (name_of c.args.name.bytes) c.args.work.now c.in-Some.at c.find_entry.result c.requires.has_state c.find_entry.ensures c.in-Some.is in
    let L = c.requires.has_state.keeps.long in
    omega arith

pub is_keyed-requires : goal.is_keyed-requires
is_keyed-requires c = let h = heads.keyed_room 0 (name_of c.args.name.bytes) c.args.work.now c.in-Some.at c.find_entry.result c.requires.has_state c.find_entry.ensures c.in-Some.is in
    let L = c.requires.has_state.keeps.long in
    omega arith

pub returns-in-Some : goal.returns-in-Some
returns-in-Some c = heads.keyed (name_of c.args.name.bytes) c.args.work.now c.in-Some.at c.find_entry.result _ c.find_entry.ensures c.in-Some.is c.is_keyed.ensures

pub returns-in-None : goal.returns-in-None
returns-in-None c = heads.keyed_none (name_of c.args.name.bytes) c.args.work.now c.find_entry.result c.find_entry.ensures c.in-None.is
