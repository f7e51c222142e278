use Rattle.std.proofs.Common.{arith}
use Rattle.state.specs.Values.{name_of}
use Rattle.waiting.specs.Queues.{planned}
use Rattle.waiting.proofs.Splices as splices
use Rattle.waiting.proofs.Laws as laws
use Rattle.waiting.proofs.changes.set_plan.Goals as goal

pub write_field-requires : goal.write_field-requires
write_field-requires c = record { has_slots = splices.has_slots c.requires.has_state; i_bound = (laws.index_count (name_of c.args.name.bytes) c.args.work.now c.in-Some.i 0 c.requires.has_state (laws.slot_is _ _ _ _ c.in-Some.ensures), omega arith, c.requires.named.1) }

pub write_field-requires-in-Some : goal.write_field-requires-in-Some
write_field-requires-in-Some c =
    let a = laws.index_count (name_of c.args.name.bytes) c.args.work.now c.in-Some.i 0 c.requires.has_state (laws.slot_is _ _ _ _ c.in-Some.ensures) in
    let b = c.write_field.ensures.count in
    record { has_slots = c.write_field.ensures.has; i_bound = (omega arith, omega arith, c.requires.named.2) }

pub returns-in-Some : goal.returns-in-Some
returns-in-Some c = laws.plans (name_of c.args.name.bytes) c.args.work.now c.write_field.new.work c.write_field-in-Some.new.work c.args.conflicts.now c.args.refused.now c.in-Some.i c.requires.named.0.ok c.requires.has_state (laws.slot_is _ _ _ _ c.in-Some.ensures) c.requires.named.1 c.requires.named.2 c.write_field.ensures c.write_field-in-Some.ensures

pub returns-in_default : goal.returns-in_default
returns-in_default c = λ cs rs B. laws.front_none (name_of c.args.name.bytes) (planned cs rs) c.args.work.now c.requires.named.0.ok c.in_default.ensures
