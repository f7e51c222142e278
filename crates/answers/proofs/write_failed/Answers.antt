use native.Mathlib.Omega.{arith}
use mathlib.Core.Path.{◌≡◌}
use mathlib.Core.Bool.{true}
use Rattle.answers.proofs.Writes as writes
use Rattle.answers.proofs.write_failed.Goals as goal

pub returns-in-AlreadyExists : goal.returns-in-AlreadyExists
returns-in-AlreadyExists c = writes.failed_as _ _ c.args.frame.now _ c.in-AlreadyExists.is (writes.collides _ _ c.set_collided.ensures c.read_again.ensures)

pub returns-in-Rejected : goal.returns-in-Rejected
returns-in-Rejected c = writes.rejects _ _ c.args.frame.now c.in-Rejected.field-0 c.in-Rejected.is c.finish.ensures

pub returns-in-CursorExpired : goal.returns-in-CursorExpired
returns-in-CursorExpired c = let e : writes.reads_on c.args.failure ≡ true = grind arith in writes.again_failed _ _ c.args.frame.now c.args.failure e c.read_again-in-CursorExpired.ensures
