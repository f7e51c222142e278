use Rattle.state.specs.Values.{name_of}
use Rattle.std.proofs.Common.{arith, refl}
use Rattle.waiting.proofs.Reading as reading
use Rattle.waiting.proofs.readers.entry_byte.Goals as goal

pub returns-in_default : goal.returns-in_default
returns-in_default c = reading.byte_missing (name_of c.args.name.bytes) c.args.work.now c.args.j c.args.o c.in_default.ensures

pub overflow_add-result : goal.overflow_add-result
overflow_add-result c = omega (arith, reading.entry_room c.requires.has_state c.in-Some.ensures)

pub bounds-work-at : goal.bounds-work-at
bounds-work-at c = omega (arith, reading.entry_room c.requires.has_state c.in-Some.ensures, c.requires.has_state.keeps.long)

pub returns : goal.returns
returns c = reading.byte_there (name_of c.args.name.bytes) c.args.work.now c.args.j c.args.o _ _ c.in-Some.ensures c.requires.named.1 refl
