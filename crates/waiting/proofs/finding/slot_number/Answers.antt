use Rattle.state.specs.Values.{name_of}
use Rattle.waiting.proofs.Laws as laws
use Rattle.std.proofs.Common.{◌+◌, arith, rules}
use Rattle.waiting.proofs.finding.slot_number.Goals as goal

pub returns-then-waiting_count-j : goal.returns-then-waiting_count-j
returns-then-waiting_count-j c = laws.slot_none (name_of c.args.name.bytes) c.args.work.now c.args.j c.waiting_count.result c.waiting_count.ensures (search rules)

pub overflow_add-result : goal.overflow_add-result
overflow_add-result c =
    let b = laws.index_below (name_of c.args.name.bytes) c.args.work.now (c.entries_before.result + c.args.j) c.args.j c.requires.has_state (laws.has_slot (name_of c.args.name.bytes) c.args.work.now c.args.j c.waiting_count.result c.entries_before.result c.waiting_count.ensures c.entries_before.ensures (search rules)) in
    omega arith

pub returns : goal.returns
returns c = laws.slot_some (name_of c.args.name.bytes) c.args.work.now c.args.j c.waiting_count.result c.entries_before.result c.waiting_count.ensures c.entries_before.ensures (search rules)
