use mathlib.Core.Path.{refl, ap}
use Rattle.passes.proofs.Answering as answering
use Rattle.frame.specs.Meaning.{meant_failure}
use Rattle.passes.proofs.pages.list_failed.Goals as goal

pub returns-in-CursorExpired : goal.returns-in-CursorExpired
returns-in-CursorExpired c = answering.failed_expired _ (ap (meant_failure c.args.frame.now) c.in-CursorExpired.is) c.restart_pass.ensures

pub returns-in-PreconditionFailed : goal.returns-in-PreconditionFailed
returns-in-PreconditionFailed c = answering.failed_other _ (ap (λ x. answering.gives_up (meant_failure c.args.frame.now x)) c.in-PreconditionFailed.is) c.abandon_pass.ensures

pub returns-in-NotFound : goal.returns-in-NotFound
returns-in-NotFound c = answering.failed_other _ (ap (λ x. answering.gives_up (meant_failure c.args.frame.now x)) c.in-NotFound.is) c.abandon_pass-in-NotFound.ensures

pub returns-in-AlreadyExists : goal.returns-in-AlreadyExists
returns-in-AlreadyExists c = answering.failed_other _ (ap (λ x. answering.gives_up (meant_failure c.args.frame.now x)) c.in-AlreadyExists.is) c.abandon_pass-in-AlreadyExists.ensures

pub returns-in-Transient : goal.returns-in-Transient
returns-in-Transient c = answering.failed_again _ (ap (meant_failure c.args.frame.now) c.in-Transient.is) c.request_list.ensures

pub returns-in-Rejected : goal.returns-in-Rejected
returns-in-Rejected c = answering.failed_as _ _ (ap (meant_failure c.args.frame.now) c.in-Rejected.is) (answering.failed_other _ refl c.abandon_pass-in-Rejected.ensures)
