use Rattle.frame.specs.Meaning.{meant_edit}
use Rattle.state.specs.Values.{name_of}
use Rattle.model.specs.Sync.{with_resource}
use Rattle.state.proofs.Widths as widths
use Rattle.queues.proofs.Writers as writers
use Rattle.queues.proofs.Folding as folding
use Rattle.queues.proofs.Queueing as queueing
use borrow.Author.Rules.{rules}
use Rattle.queues.proofs.enqueuing.fold_in.Goals as goal

pub put_id-a-requires : goal.put_id-a-requires
put_id-a-requires c = (search rules, (folding.edit_parts (meant_edit c.args.frame.now c.args.edit) c.requires.named.1).id)

pub put_expiry-d-requires : goal.put_expiry-d-requires
put_expiry-d-requires c = (search rules, (folding.edit_parts (meant_edit c.args.frame.now c.args.edit) c.requires.named.1).expires_at)

pub slice_bounds-fold-end : goal.slice_bounds-fold-end
slice_bounds-fold-end c = writers.prefix c.put_expiry-d.ensures

pub slice_bounds-fold-end-2 : goal.slice_bounds-fold-end-2
slice_bounds-fold-end-2 c = writers.prefix c.put_id-a.ensures

pub fold-within-requires : goal.fold-within-requires
fold-within-requires c = record { has_state = c.requires.has_state; named = (c.requires.named.0, c.requires.named.2, writers.most 9 c.put_expiry-d.ensures ((widths.time_within).bytes _ (folding.edit_parts (meant_edit c.args.frame.now c.args.edit) c.requires.named.1).expires_at), writers.most 33 c.put_id-a.ensures ((widths.text_33).bytes _ (folding.edit_parts (meant_edit c.args.frame.now c.args.edit) c.requires.named.1).id)) }

pub returns : goal.returns
returns c = λ op k q. queueing.folded_in (name_of c.args.name.bytes) (with_resource (name_of c.args.name.bytes) (meant_edit c.args.frame.now c.args.edit)) c.args.p op (queueing.resource_is (name_of c.args.name.bytes) (meant_edit c.args.frame.now c.args.edit)) (c.fold-within.ensures op (with_resource (name_of c.args.name.bytes) (meant_edit c.args.frame.now c.args.edit)) (queueing.fold_bytes (name_of c.args.name.bytes) (meant_edit c.args.frame.now c.args.edit) c.requires.named.1 op k q c.put_expiry-d.ensures c.put_id-a.ensures)) c.tried.ensures
