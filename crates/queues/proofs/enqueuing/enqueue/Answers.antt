use Rattle.frame.specs.Meaning.{meant_edit}
use Rattle.queues.proofs.Folding as folding
use Rattle.queues.proofs.Queueing as queueing
use Rattle.queues.proofs.enqueuing.enqueue.Goals as goal

pub tell_expired-requires : goal.tell_expired-requires
tell_expired-requires c = (folding.edit_parts (meant_edit c.args.frame.now c.args.edit) c.requires.ok).id

pub returns-then-expired : goal.returns-then-expired
returns-then-expired c = queueing.enqueue_expired (meant_edit c.args.frame.now c.args.edit) c.expired.ensures c.if-expired.true c.tell_expired.ensures

pub returns : goal.returns
returns c = queueing.enqueue_on (meant_edit c.args.frame.now c.args.edit) c.expired.ensures c.if-expired.false c.target-name.ensures.reads c.enqueue_live.ensures
