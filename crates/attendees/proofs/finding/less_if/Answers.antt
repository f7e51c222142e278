use native.Mathlib.Omega.{arith}
use Rattle.attendees.proofs.finding.less_if.Goals as goal

pub returns-then-n-gt0 : goal.returns-then-n-gt0
returns-then-n-gt0 c = rw c.if-b.true

pub returns-else-b : goal.returns-else-b
returns-else-b c = rw c.if-b.false (omega arith)
