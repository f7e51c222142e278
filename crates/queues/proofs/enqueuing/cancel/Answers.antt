use Rattle.frame.specs.Meaning.{meant_edit, text_in}
use Rattle.state.specs.Values.{name_of}
use Rattle.model.specs.Sync.{with_resource}
use Rattle.queues.proofs.Folding as folding
use Rattle.queues.proofs.Queueing as queueing
use Rattle.queues.proofs.enqueuing.cancel.Goals as goal

pub returns-then-n-eq0 : goal.returns-then-n-eq0
returns-then-n-eq0 c = queueing.cancel_none (name_of c.args.name.bytes) (with_resource (name_of c.args.name.bytes) (meant_edit c.args.frame.now c.args.edit)) (queueing.resource_is (name_of c.args.name.bytes) (meant_edit c.args.frame.now c.args.edit)) c.waiting_count-n.ensures c.if-n-eq0.true

pub tell_done-requires : goal.tell_done-requires
tell_done-requires c = (folding.edit_parts (meant_edit c.args.frame.now c.args.edit) c.requires.named.1).id

pub returns : goal.returns
returns c = queueing.cancel_next (name_of c.args.name.bytes) (with_resource (name_of c.args.name.bytes) (meant_edit c.args.frame.now c.args.edit)) (queueing.resource_is (name_of c.args.name.bytes) (meant_edit c.args.frame.now c.args.edit)) c.waiting_count-n.ensures c.if-n-eq0.false c.notify-q.ensures c.remove_entry.ensures (text_in c.args.frame.now c.args.edit.id) (queueing.id_is (name_of c.args.name.bytes) (meant_edit c.args.frame.now c.args.edit)) c.tell_done.ensures
