use Rattle.observe.proofs.Refreshing as refreshing
use mathlib.Core.Path.{ap}
use Rattle.state.specs.Values.{name_of}
use Rattle.observe.proofs.refresh.refresh_failed.Goals as goal

pub returns-in-CursorExpired : goal.returns-in-CursorExpired
returns-in-CursorExpired c = refreshing.failed_ends c.args.frame.now c.args.id (name_of c.args.name.bytes) c.args.failure (ap refreshing.ends c.in-CursorExpired.is)

pub returns-in-PreconditionFailed : goal.returns-in-PreconditionFailed
returns-in-PreconditionFailed c = refreshing.failed_ends c.args.frame.now c.args.id (name_of c.args.name.bytes) c.args.failure (ap refreshing.ends c.in-PreconditionFailed.is)

pub returns-in-NotFound : goal.returns-in-NotFound
returns-in-NotFound c = refreshing.failed_gone c.args.frame.now c.args.id _ c.in-NotFound.is c.refresh_gone.ensures

pub returns-in-AlreadyExists : goal.returns-in-AlreadyExists
returns-in-AlreadyExists c = refreshing.failed_ends c.args.frame.now c.args.id (name_of c.args.name.bytes) c.args.failure (ap refreshing.ends c.in-AlreadyExists.is)

pub returns-in-Transient : goal.returns-in-Transient
returns-in-Transient c = refreshing.failed_again c.args.frame.now c.args.id _ c.in-Transient.is c.doubt.ensures

pub returns-in-Rejected : goal.returns-in-Rejected
returns-in-Rejected c = refreshing.failed_ends c.args.frame.now c.args.id (name_of c.args.name.bytes) c.args.failure (ap refreshing.ends c.in-Rejected.is)
