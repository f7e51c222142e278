use mir.Facts.{to_z-of_z}
use Rattle.clock.proofs.Expiring as expiring
use Rattle.clock.proofs.Ticking as ticking
use Rattle.clock.proofs.head_falls.Goals as goal

pub returns-then-is_due : goal.returns-then-is_due
returns-then-is_due c = ticking.falls _ _ (expiring.due_at _ _ (to_z-of_z c.ranges.at) c.is_due.ensures) c.if-is_due.true c.asks.ensures
