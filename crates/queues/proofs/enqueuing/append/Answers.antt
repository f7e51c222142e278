use Rattle.frame.specs.Meaning.{meant_edit}
use Rattle.state.specs.Values.{name_of}
use Rattle.model.specs.Sync.{with_resource}
use Rattle.queues.proofs.Queueing as queueing
use Rattle.queues.proofs.enqueuing.append.Goals as goal

pub start_edit-requires : goal.start_edit-requires
start_edit-requires c = record { has_state = (c.append_entry-q.ensures.does c.args.out.now).state c.requires.has_state; named = c.requires.named.0 }

pub returns-then-n-eq0 : goal.returns-then-n-eq0
returns-then-n-eq0 c = queueing.append_start (name_of c.args.name.bytes) (with_resource (name_of c.args.name.bytes) (meant_edit c.args.frame.now c.args.edit)) (queueing.resource_is (name_of c.args.name.bytes) (meant_edit c.args.frame.now c.args.edit)) c.waiting_count-n.ensures c.append_entry-q.ensures c.if-n-eq0.true c.start_edit.ensures

pub returns : goal.returns
returns c = queueing.append_more (name_of c.args.name.bytes) (with_resource (name_of c.args.name.bytes) (meant_edit c.args.frame.now c.args.edit)) (queueing.resource_is (name_of c.args.name.bytes) (meant_edit c.args.frame.now c.args.edit)) c.waiting_count-n.ensures c.append_entry-q.ensures c.if-n-eq0.false
