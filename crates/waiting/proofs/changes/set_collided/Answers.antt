use Rattle.std.proofs.Common.{arith}
use Rattle.state.specs.Values.{name_of}
use Rattle.model.specs.Sync.{as_collided}
use Rattle.waiting.proofs.Splices as splices
use Rattle.waiting.proofs.Laws as laws
use Rattle.waiting.proofs.changes.set_collided.Goals as goal

pub write_field-requires : goal.write_field-requires
write_field-requires c = record { has_slots = splices.has_slots c.requires.has_state; i_bound = (laws.index_count (name_of c.args.name.bytes) c.args.work.now c.in-Some.i 0 c.requires.has_state (laws.slot_is _ _ _ _ c.in-Some.ensures), omega arith, omega arith) }

pub returns-in-Some : goal.returns-in-Some
returns-in-Some c = laws.collides (name_of c.args.name.bytes) c.args.work.now c.write_field.new.work c.in-Some.i c.requires.named.ok (laws.slot_is _ _ _ _ c.in-Some.ensures) c.write_field.ensures

pub returns-in_default : goal.returns-in_default
returns-in_default c = laws.front_none (name_of c.args.name.bytes) as_collided c.args.work.now c.requires.named.ok c.in_default.ensures
