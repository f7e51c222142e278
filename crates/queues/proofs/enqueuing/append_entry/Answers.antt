use Rattle.frame.specs.Meaning.{meant_edit}
use Rattle.state.specs.Values.{name_of}
use Rattle.model.specs.Sync.{with_resource}
use Rattle.queues.proofs.Writers as writers
use Rattle.queues.proofs.Folding as folding
use Rattle.queues.proofs.Queueing as queueing
use borrow.Author.Rules.{rules}
use Rattle.queues.proofs.enqueuing.append_entry.Goals as goal

pub put_id-a-requires : goal.put_id-a-requires
put_id-a-requires c = (search rules, (folding.edit_parts (meant_edit c.args.frame.now c.args.edit) c.requires.named.1).id)

pub put_operation-b-requires : goal.put_operation-b-requires
put_operation-b-requires c = (search rules, (folding.edit_parts (meant_edit c.args.frame.now c.args.edit) c.requires.named.1).operation)

pub put_role-c-requires : goal.put_role-c-requires
put_role-c-requires c = (search rules, (folding.edit_parts (meant_edit c.args.frame.now c.args.edit) c.requires.named.1).role)

pub put_expiry-d-requires : goal.put_expiry-d-requires
put_expiry-d-requires c = (search rules, (folding.edit_parts (meant_edit c.args.frame.now c.args.edit) c.requires.named.1).expires_at)

pub slice_bounds-append-end : goal.slice_bounds-append-end
slice_bounds-append-end c = writers.prefix c.put_id-a.ensures

pub slice_bounds-append-end-2 : goal.slice_bounds-append-end-2
slice_bounds-append-end-2 c = writers.prefix c.put_operation-b.ensures

pub slice_bounds-append-end-3 : goal.slice_bounds-append-end-3
slice_bounds-append-end-3 c = writers.prefix c.put_role-c.ensures

pub slice_bounds-append-end-4 : goal.slice_bounds-append-end-4
slice_bounds-append-end-4 c = writers.prefix c.put_expiry-d.ensures

pub append-within-requires : goal.append-within-requires
append-within-requires c = record { has_state = c.requires.has_state; named = (c.requires.named.0, record { edit = (with_resource (name_of c.args.name.bytes) (meant_edit c.args.frame.now c.args.edit)); is = (queueing.edit_bytes (name_of c.args.name.bytes) (meant_edit c.args.frame.now c.args.edit) c.requires.named.1 c.put_id-a.ensures c.put_operation-b.ensures c.put_role-c.ensures c.put_expiry-d.ensures) }) }

pub returns : goal.returns
returns c = queueing.appended (name_of c.args.name.bytes) (with_resource (name_of c.args.name.bytes) (meant_edit c.args.frame.now c.args.edit)) c.args.p (queueing.resource_is (name_of c.args.name.bytes) (meant_edit c.args.frame.now c.args.edit)) (c.append-within.ensures (with_resource (name_of c.args.name.bytes) (meant_edit c.args.frame.now c.args.edit)) (queueing.edit_bytes (name_of c.args.name.bytes) (meant_edit c.args.frame.now c.args.edit) c.requires.named.1 c.put_id-a.ensures c.put_operation-b.ensures c.put_role-c.ensures c.put_expiry-d.ensures)) c.tried.ensures
