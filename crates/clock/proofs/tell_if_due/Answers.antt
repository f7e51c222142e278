use mir.Facts.{to_z-of_z}
use Rattle.clock.proofs.Expiring as expiring
use Rattle.clock.proofs.tell_if_due.Goals as goal

pub returns-then-is_due : goal.returns-then-is_due
returns-then-is_due c = expiring.told _ _ _ c.requires.has_state (expiring.due_at _ _ (to_z-of_z c.ranges.at) c.is_due.ensures) c.if-is_due.true c.tell_expired.ensures

pub returns : goal.returns
returns c = expiring.not_told _ _ _ c.requires.has_state (expiring.due_at _ _ (to_z-of_z c.ranges.at) c.is_due.ensures) c.if-is_due.false
