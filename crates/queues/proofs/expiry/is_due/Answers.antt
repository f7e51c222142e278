use mir.Syntax.{w64}
use borrow.Author.Rules.{rules}
use mir.Facts.{to_z-of_z}
use Rattle.queues.proofs.Writers as writers
use Rattle.queues.proofs.expiry.is_due.Goals as goal

pub returns-in-Never : goal.returns-in-Never
returns-in-Never c = writers.due_never c.args.now c.in-Never.is

pub returns-in-At : goal.returns-in-At
returns-in-At c = writers.due_at c.args.now c.in-At.at _ _ c.in-At.is c.expired.ensures (to_z-of_z {w = w64} {z = c.in-At.at} (search rules)) (to_z-of_z c.ranges.now)
