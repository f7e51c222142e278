use borrow.Author.Rules.{rules}
use Rattle.frame.specs.Meaning.{meant_edit}
use Rattle.state.specs.Values.{name_of}
use Rattle.queues.proofs.Queueing as queueing
use Rattle.queues.proofs.enqueuing.enqueue_live.Goals as goal

pub returns-in-Apart : goal.returns-in-Apart
returns-in-Apart c = queueing.live_apart (name_of c.args.name.bytes) (meant_edit c.args.frame.now c.args.edit) c.coalesced_with-folded.ensures c.in-Apart.is c.append.ensures

pub fold_in-requires : goal.fold_in-requires
fold_in-requires c = record { has_state = c.requires.has_state; named = (c.requires.named.0, c.requires.named.1, queueing.live_short (name_of c.args.name.bytes) (meant_edit c.args.frame.now c.args.edit) c.coalesced_with-folded.ensures c.in-Into.n c.part.ensures (search rules)) }

pub returns-in-Into : goal.returns-in-Into
returns-in-Into c = queueing.live_into (name_of c.args.name.bytes) (meant_edit c.args.frame.now c.args.edit) c.coalesced_with-folded.ensures c.args.out.now c.in-Into.n c.in-Into.is c.requires.has_state c.part.ensures c.fold_in.ensures

pub returns-in-Cancelled : goal.returns-in-Cancelled
returns-in-Cancelled c = queueing.live_cancelled (name_of c.args.name.bytes) (meant_edit c.args.frame.now c.args.edit) c.coalesced_with-folded.ensures c.in-Cancelled.is c.cancel.ensures
