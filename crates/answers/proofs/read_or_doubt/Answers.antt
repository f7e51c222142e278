use Rattle.answers.proofs.Found as found
use Rattle.answers.proofs.read_or_doubt.Goals as goal

pub returns-then-waiting_count-eq0 : goal.returns-then-waiting_count-eq0
returns-then-waiting_count-eq0 c = found.doubts _ c.waiting_count.ensures c.if-waiting_count-eq0.true c.doubt.ensures

pub returns : goal.returns
returns c = found.again _ c.waiting_count.ensures c.if-waiting_count-eq0.false c.read_for_edit.ensures
