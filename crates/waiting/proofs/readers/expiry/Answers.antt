use Rattle.std.proofs.Common.{arith}
use Rattle.state.specs.Values.{name_of}
use Rattle.waiting.proofs.Reading as reading
use Rattle.waiting.proofs.readers.expiry.Goals as goal

pub returns-in_err-at : goal.returns-in_err-at
returns-in_err-at c = reading.expiry_none (name_of c.args.name.bytes) c.args.work.now c.args.j _ c.in_err-at.ensures c.from_residual.ensures

pub overflow_add-at : goal.overflow_add-at
overflow_add-at c = omega (arith, reading.entry_room c.requires.has_state c.in_ok-at.ensures)

pub bounds-work-at : goal.bounds-work-at
bounds-work-at c = omega (arith, reading.entry_room c.requires.has_state c.in_ok-at.ensures, c.requires.has_state.keeps.long)

pub returns-then-work-at-eq0 : goal.returns-then-work-at-eq0
returns-then-work-at-eq0 c = reading.expiry_unset (name_of c.args.name.bytes) c.args.work.now c.args.j c.in_ok-at.field-0 c.in_ok-at.ensures c.if-work-at-eq0.true

pub get_be-requires : goal.get_be-requires
get_be-requires c = omega (arith, reading.entry_room c.requires.has_state c.in_ok-at.ensures, c.requires.has_state.keeps.long)

pub returns : goal.returns
returns c = reading.expiry_set (name_of c.args.name.bytes) c.args.work.now c.args.j c.in_ok-at.field-0 c.in_ok-at.ensures c.get_be.result c.cast_signed.result c.get_be.type_inv c.if-work-at-eq0.false c.get_be.ensures c.cast_signed.ensures
