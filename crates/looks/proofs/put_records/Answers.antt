use Rattle.lent.specs.Lent.{part}
use Rattle.looks.proofs.Laws.{not-true, not-false, some_record, no_record, few_records, record_short}
use Rattle.looks.proofs.Lists.{not_more, going_start, next_room, fewer, going_more, going_end}
use Rattle.format.specs.Format.{list}
use mathlib.Core.Path.{refl}
use native.Mathlib.Omega.{arith}
use borrow.Author.Rules.{rules}
use Rattle.looks.proofs.put_records.Goals as goal

pub overflow_add-next : goal.overflow_add-next
unfolding list
overflow_add-next c = search rules

pub loop-r-init : goal.loop-r-init
loop-r-init c = (refl, going_start _ _ _ _)

pub overflow_cast-count : goal.overflow_cast-count
unfolding list
overflow_cast-count c = let k = not_more c.loop-r.invariant.1 c.requires in let l = few_records c.args.state.now in omega arith

pub put_byte-requires : goal.put_byte-requires
unfolding list
put_byte-requires c = search rules

pub returns-then-not-r : goal.returns-then-not-r
unfolding list
returns-then-not-r c = going_end c.loop-r.invariant.1 c.requires (no_record _ _ _ c.record_at-r.result.found (part c.record_at-r.result.name.at c.record_at-r.result.name.length c.args.state.now) (part c.record_at-r.result.event.at c.record_at-r.result.event.length c.args.state.now) c.record_at-r.ensures.0 (not-true c.if-not-r.true)) c.put_byte.ensures

pub put_record-next-requires : goal.put_record-next-requires
unfolding list
put_record-next-requires c = let r = next_room c.loop-r.invariant.1 c.requires (some_record _ _ _ c.record_at-r.result.found (part c.record_at-r.result.name.at c.record_at-r.result.name.length c.args.state.now) (part c.record_at-r.result.event.at c.record_at-r.result.event.length c.args.state.now) c.record_at-r.ensures.0 (not-false c.if-not-r.false)) in (record_short _ _ _ c.record_at-r.result.found (part c.record_at-r.result.name.at c.record_at-r.result.name.length c.args.state.now) (part c.record_at-r.result.event.at c.record_at-r.result.event.length c.args.state.now) c.record_at-r.ensures.0 (not-false c.if-not-r.false), omega arith)

pub overflow_add-count : goal.overflow_add-count
unfolding list
overflow_add-count c = let k = fewer c.loop-r.invariant.1 c.requires (some_record _ _ _ c.record_at-r.result.found (part c.record_at-r.result.name.at c.record_at-r.result.name.length c.args.state.now) (part c.record_at-r.result.event.at c.record_at-r.result.event.length c.args.state.now) c.record_at-r.ensures.0 (not-false c.if-not-r.false)) in let l = few_records c.args.state.now in omega arith

pub loop-r-smaller : goal.loop-r-smaller
unfolding list
loop-r-smaller c = let k = fewer c.loop-r.invariant.1 c.requires (some_record _ _ _ c.record_at-r.result.found (part c.record_at-r.result.name.at c.record_at-r.result.name.length c.args.state.now) (part c.record_at-r.result.event.at c.record_at-r.result.event.length c.args.state.now) c.record_at-r.ensures.0 (not-false c.if-not-r.false)) in omega arith

pub loop-r-preserved : goal.loop-r-preserved
unfolding list
loop-r-preserved c = (search rules, going_more c.loop-r.invariant.1 c.requires (some_record _ _ _ c.record_at-r.result.found (part c.record_at-r.result.name.at c.record_at-r.result.name.length c.args.state.now) (part c.record_at-r.result.event.at c.record_at-r.result.event.length c.args.state.now) c.record_at-r.ensures.0 (not-false c.if-not-r.false)) c.put_record-next.ensures)
