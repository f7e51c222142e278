use native.Mathlib.Nat.{sub-zero}
use Rattle.attendees.proofs.Laws as laws
use mathlib.Core.Path.{sym, ◌∙◌}
use borrow.Author.Rules.{rules}
use Rattle.attendees.proofs.finding.find_entry.Goals as goal

pub loop-i-init : goal.loop-i-init
loop-i-init c = (search rules, rw sub-zero)

pub returns-then-last_one : goal.returns-then-last_one
returns-then-last_one c = laws.find_all c.args.list.now c.args.wanted.now c.args.n _ _ c.entry_count-count.ensures (c.loop-i.invariant.1 ∙ sym (laws.find_here c.args.list.now c.args.wanted.now c.loop-i.left c.loop-i.i c.entry_count-count.result (search rules) _ _ _ _ c.same_folded-hit.ensures c.address.ensures c.entry_part-e.ensures c.last_one.ensures c.if-last_one.true))

pub loop-i-preserved : goal.loop-i-preserved
loop-i-preserved c = (search rules, c.loop-i.invariant.1 ∙ laws.find_next c.args.list.now c.args.wanted.now c.loop-i.left c.loop-i.i c.entry_count-count.result (search rules) _ _ _ _ c.same_folded-hit.ensures c.address.ensures c.entry_part-e.ensures c.last_one.ensures c.if-last_one.false _ c.less_if-left.ensures)

pub returns : goal.returns
returns c = laws.find_all c.args.list.now c.args.wanted.now c.args.n _ _ c.entry_count-count.ensures (c.loop-i.invariant.1 ∙ laws.find_end c.args.list.now c.args.wanted.now c.loop-i.left c.loop-i.i c.entry_count-count.result (search rules))
