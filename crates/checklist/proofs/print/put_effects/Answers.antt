use Rattle.phrases.proofs.Printed.{plain_shows, shows_then}
use Rattle.checklist.proofs.print.put_effects.Goals as goal

pub loop-effect-preserved : goal.loop-effect-preserved
loop-effect-preserved c = shows_then c.loop-effect.invariant (shows_then (plain_shows c.part-head.ensures tt) c.effect-said.ensures)
