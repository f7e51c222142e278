use Rattle.std.proofs.Common.{arith, rules}
use Rattle.state.specs.Values.{name_of}
use Rattle.waiting.proofs.Moves as moves
use Rattle.waiting.proofs.Reading as reading
use Rattle.waiting.proofs.moving.move_entry.Goals as goal

pub copy_slot-slot-requires : goal.copy_slot-slot-requires
copy_slot-slot-requires c = omega (arith, reading.entry_room c.requires.has_state c.in-Some.ensures, c.requires.has_state.keeps.long)

pub join_entry-requires : goal.join_entry-requires
join_entry-requires c = record { has_state = moves.has_state c.requires.has_state c.remove_entry.ensures; named = (c.requires.named.1, moves.room_left (name_of c.args.from.bytes) c.args.work.now c.remove_entry.new.work c.args.j c.in-Some.at c.requires.has_state c.in-Some.ensures c.remove_entry.ensures, search rules) }

pub returns-in-Some : goal.returns-in-Some
returns-in-Some c = moves.moves (name_of c.args.from.bytes) (name_of c.args.to.bytes) c.args.work.now c.remove_entry.new.work c.join_entry.new.work c.copy_slot-slot.result c.args.j c.in-Some.at c.requires.named.0.ok c.in-Some.ensures c.copy_slot-slot.ensures c.remove_entry.ensures c.join_entry.ensures

pub returns-in_default : goal.returns-in_default
returns-in_default c = moves.moves_none (name_of c.args.from.bytes) (name_of c.args.to.bytes) c.args.work.now c.args.j c.in_default.ensures
