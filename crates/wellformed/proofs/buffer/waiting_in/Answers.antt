use Rattle.wellformed.proofs.States.{edits_of, queues_of}
use Rattle.wellformed.proofs.buffer.waiting_in.Goals as goal

pub returns : goal.returns
returns c = (λ e. edits_of c.args.state.now (c.entries_in.ensures.0 e), λ E. c.entries_in.ensures.1 (queues_of c.args.state.now E))
