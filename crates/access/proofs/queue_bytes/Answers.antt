use Rattle.access.proofs.Queues.{no_queue, queue_named, has_head, head_room, queue_read, found_at}
use mathlib.Core.Path.{refl}
use native.Mathlib.Omega.{arith}
use borrow.Author.Rules.{rules}
use Rattle.access.proofs.queue_bytes.Goals as goal

pub returns-then-len-i : goal.returns-then-len-i
returns-then-len-i c = (c.no_queue.ensures.0, rw c.no_queue.ensures.1 (no_queue c.resources-names.ensures (omega (arith, c.len.ensures, c.if-len-i.true))), search rules)

pub find_entry-requires : goal.find_entry-requires
find_entry-requires c = record { has_state = c.requires; named = queue_named c.resources-names.ensures (omega (arith, c.len.ensures, c.if-len-i.false)) c.name-name.ensures c.requires }

pub returns-in_default : goal.returns-in_default
returns-in_default c = absurd (has_head c.resources-names.ensures (omega (arith, c.len.ensures, c.if-len-i.false)) c.name-name.ensures c.requires (found_at c.find_entry.ensures c.in_default.is))

pub byte_at-length-requires : goal.byte_at-length-requires
byte_at-length-requires c = let m = head_room c.resources-names.ensures (omega (arith, c.len.ensures, c.if-len-i.false)) c.name-name.ensures c.requires _ (found_at c.find_entry.ensures c.in-Some.is) in let l = c.requires.keeps.long in omega arith

pub waiting_count-count-requires : goal.waiting_count-count-requires
waiting_count-count-requires c = record { has_state = c.requires; named = queue_named c.resources-names.ensures (omega (arith, c.len.ensures, c.if-len-i.false)) c.name-name.ensures c.requires }

pub overflow_add-result : goal.overflow_add-result
overflow_add-result c = let m = head_room c.resources-names.ensures (omega (arith, c.len.ensures, c.if-len-i.false)) c.name-name.ensures c.requires _ (found_at c.find_entry.ensures c.in-Some.is) in let l = c.requires.keeps.long in omega arith

pub returns : goal.returns
returns c = let m = head_room c.resources-names.ensures (omega (arith, c.len.ensures, c.if-len-i.false)) c.name-name.ensures c.requires _ (found_at c.find_entry.ensures c.in-Some.is) in let l = c.requires.keeps.long in (refl, queue_read c.resources-names.ensures (omega (arith, c.len.ensures, c.if-len-i.false)) c.name-name.ensures _ _ _ (found_at c.find_entry.ensures c.in-Some.is) c.byte_at-length.ensures.0 c.waiting_count-count.ensures, omega arith)
