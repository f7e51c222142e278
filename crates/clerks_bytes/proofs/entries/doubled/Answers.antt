use Rattle.clerks_bytes.proofs.EntryLaws.{twice_zero, twice_found, twice_next, twice_end}
use borrow.Author.Rules.{rules}
use Rattle.clerks_bytes.proofs.entries.doubled.Goals as goal

pub loop-i-init : goal.loop-i-init
loop-i-init c = (search rules, twice_zero c.args.list.now)

pub returns-then-occurrence-gt0 : goal.returns-then-occurrence-gt0
returns-then-occurrence-gt0 c = twice_found c.args.list.now c.loop-i.i _ _ c.entry_count-count.ensures (search rules) c.occurrence.ensures c.if-occurrence-gt0.true

pub loop-i-preserved : goal.loop-i-preserved
loop-i-preserved c = (search rules, twice_next c.args.list.now c.loop-i.i _ c.loop-i.invariant.1 c.occurrence.ensures c.if-occurrence-gt0.false)

pub returns : goal.returns
returns c = twice_end c.args.list.now c.loop-i.i _ c.entry_count-count.ensures c.loop-i.invariant.0 c.loop-i-test.false c.loop-i.invariant.1
