use mir.Facts.{to_z-of_z}
use Rattle.clock.proofs.Expiring as expiring
use Rattle.clock.proofs.drop_if_due.Goals as goal

pub returns-then-is_due : goal.returns-then-is_due
returns-then-is_due c = expiring.dropped _ _ _ (expiring.due_at _ _ (to_z-of_z c.ranges.at) c.is_due.ensures) c.if-is_due.true c.remove_entry.ensures

pub returns-else-is_due : goal.returns-else-is_due
returns-else-is_due c = expiring.not_dropped _ _ _ (expiring.due_at _ _ (to_z-of_z c.ranges.at) c.is_due.ensures) c.if-is_due.false
