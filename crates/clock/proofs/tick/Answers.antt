use mir.Facts.{to_z-of_z}
use Rattle.clock.proofs.Ticking as ticking
use Rattle.clock.proofs.tick.Goals as goal

pub returns : goal.returns
returns c = ticking.ticks c.args.at (to_z-of_z c.ranges.at) c.requires.ok c.set_now.ensures c.tick_each.ensures
