use Rattle.observe.proofs.Reading as reading
use Rattle.observe.proofs.reads.unread.Goals as goal

pub loop-i-init : goal.loop-i-init
loop-i-init c = rw c.new-list.ensures (reading.noted_start c.args.work.now)

pub note-requires-clause-i_bound : goal.note-requires-clause-i_bound
note-requires-clause-i_bound c = (reading.below c.args.work.now _ c.loop-i.i c.requires c.staged_count-count.ensures c.loop-i-test.true, c.loop-i.invariant)

pub returns : goal.returns
returns c = reading.noted_end c.args.work.now _ c.loop-i.i c.loop-i.list c.staged_count-count.ensures c.loop-i-test.false c.loop-i.invariant
