use Rattle.answers.proofs.Writes as writes
use Rattle.answers.proofs.read_again.Goals as goal

pub returns-then-waiting_count-eq0 : goal.returns-then-waiting_count-eq0
returns-then-waiting_count-eq0 c = writes.reads_nothing _ c.waiting_count.ensures c.if-waiting_count-eq0.true

pub returns : goal.returns
returns c = writes.reads_again _ c.waiting_count.ensures c.if-waiting_count-eq0.false c.read_for_edit.ensures
