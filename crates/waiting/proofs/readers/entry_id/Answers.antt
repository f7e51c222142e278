use Rattle.std.proofs.Common.{arith}
use Rattle.waiting.proofs.Reading as reading
use Rattle.waiting.proofs.readers.entry_id.Goals as goal

pub returns-in_default : goal.returns-in_default
returns-in_default c = reading.id_none _ c.args.k c.in_default.ensures

pub overflow_add-p : goal.overflow_add-p
overflow_add-p c = omega (arith, reading.entry_room c.requires.has_state c.in-Some.ensures)

pub text_name-requires : goal.text_name-requires
text_name-requires c = reading.own_room c.in-Some.ensures c.requires.has_state

pub returns-then-k-eq0 : goal.returns-then-k-eq0
returns-then-k-eq0 c = reading.id_own c.in-Some.ensures _ c.args.k c.if-k-eq0.true c.text_name.ensures

pub overflow_add-p-2 : goal.overflow_add-p-2
overflow_add-p-2 c = omega (arith, reading.entry_room c.requires.has_state c.in-Some.ensures)

pub bounds-work-p : goal.bounds-work-p
bounds-work-p c = omega (arith, reading.entry_room c.requires.has_state c.in-Some.ensures, c.requires.has_state.keeps.long)

pub returns-then-from-k : goal.returns-then-from-k
returns-then-from-k c = reading.id_past c.in-Some.ensures _ c.args.k (omega arith)

pub text_name-requires-2 : goal.text_name-requires-2
text_name-requires-2 c = reading.more_room c.in-Some.ensures c.args.k c.texts_end-at.result c.requires.has_state (omega arith) (omega arith) c.texts_end-at.ensures

pub returns : goal.returns
returns c = reading.id_more c.in-Some.ensures _ c.args.k c.texts_end-at.result (omega arith) c.texts_end-at.ensures c.text_name-2.ensures
