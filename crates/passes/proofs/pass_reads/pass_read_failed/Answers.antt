use mathlib.Core.Path.{refl, ap}
use Rattle.passes.proofs.Answering as answering
use Rattle.frame.specs.Meaning.{meant_failure}
use Rattle.model.specs.Seam.{Outcome}
use Rattle.passes.proofs.pass_reads.pass_read_failed.Goals as goal

pub returns-in-CursorExpired : goal.returns-in-CursorExpired
returns-in-CursorExpired c = answering.read_strange c.args.id _ _ (ap (λ x. answering.is_strange (Outcome.Failed (meant_failure c.args.frame.now x))) c.in-CursorExpired.is) c.abandon_if_open.ensures

pub returns-in-PreconditionFailed : goal.returns-in-PreconditionFailed
returns-in-PreconditionFailed c = answering.read_strange c.args.id _ _ (ap (λ x. answering.is_strange (Outcome.Failed (meant_failure c.args.frame.now x))) c.in-PreconditionFailed.is) c.abandon_if_open-in-PreconditionFailed.ensures

pub returns-in-NotFound : goal.returns-in-NotFound
returns-in-NotFound c = answering.read_gone c.args.id _ _ (ap (λ x. Outcome.Failed (meant_failure c.args.frame.now x)) c.in-NotFound.is) c.pass_read_gone.ensures

pub returns-in-AlreadyExists : goal.returns-in-AlreadyExists
returns-in-AlreadyExists c = answering.read_strange c.args.id _ _ (ap (λ x. answering.is_strange (Outcome.Failed (meant_failure c.args.frame.now x))) c.in-AlreadyExists.is) c.abandon_if_open-in-AlreadyExists.ensures

pub returns-in-Transient : goal.returns-in-Transient
returns-in-Transient c = answering.read_again c.args.id _ _ (ap (λ x. Outcome.Failed (meant_failure c.args.frame.now x)) c.in-Transient.is) c.read_unread.ensures

pub returns-in-Rejected : goal.returns-in-Rejected
returns-in-Rejected c = answering.read_as c.args.id _ _ _ (ap (λ x. Outcome.Failed (meant_failure c.args.frame.now x)) c.in-Rejected.is) (answering.read_strange c.args.id _ _ refl c.abandon_if_open-in-Rejected.ensures)
