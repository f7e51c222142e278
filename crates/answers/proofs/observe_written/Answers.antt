use Rattle.answers.proofs.Writes as writes
use Rattle.answers.proofs.observe_written.Goals as goal

pub returns : goal.returns
returns c = λ e k q. writes.write_observed _ _ _ c.doubtful.ensures c.if-doubtful.false ((c.observe_some.ensures e k q).does _)
