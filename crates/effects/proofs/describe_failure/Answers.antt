use Rattle.effects.proofs.Reasons.{failure_cursor_expired, failure_precondition_failed, failure_not_found, failure_already_exists, failure_transient, failure_rejected}
use Rattle.effects.proofs.describe_failure.Goals as goal

pub text-requires-in-Rejected : goal.text-requires-in-Rejected
text-requires-in-Rejected c = c.bytes.ensures.result_len_bound

pub returns-in-CursorExpired : goal.returns-in-CursorExpired
returns-in-CursorExpired c = failure_cursor_expired c.args.frame.now c.args.failure c.in-CursorExpired.is c.text.ensures

pub returns-in-PreconditionFailed : goal.returns-in-PreconditionFailed
returns-in-PreconditionFailed c = failure_precondition_failed c.args.frame.now c.args.failure c.in-PreconditionFailed.is c.text-in-PreconditionFailed.ensures

pub returns-in-NotFound : goal.returns-in-NotFound
returns-in-NotFound c = failure_not_found c.args.frame.now c.args.failure c.in-NotFound.is c.text-in-NotFound.ensures

pub returns-in-AlreadyExists : goal.returns-in-AlreadyExists
returns-in-AlreadyExists c = failure_already_exists c.args.frame.now c.args.failure c.in-AlreadyExists.is c.text-in-AlreadyExists.ensures

pub returns-in-Transient : goal.returns-in-Transient
returns-in-Transient c = failure_transient c.args.frame.now c.args.failure c.in-Transient.is c.text-in-Transient.ensures

pub returns-in-Rejected : goal.returns-in-Rejected
returns-in-Rejected c = failure_rejected c.args.frame.now c.args.failure _ _ c.in-Rejected.is c.bytes.ensures.result_value c.text-in-Rejected.ensures
