use Rattle.std.proofs.Common.{◌<◌, arith}
use Rattle.phrases.proofs.Printed.{front_shown, shows_wrote, shows_then}
use Rattle.phrases.proofs.writing.shown.Goals as goal

pub loop-rest-preserved : goal.loop-rest-preserved
loop-rest-preserved c =
    let some : 0 < c.as_it_is-n.result = omega arith in
    shows_then c.loop-rest.invariant (shows_wrote c.part-said.ensures (rw c.split_at.ensures.front (front_shown c.loop-rest.rest.now c.as_it_is-n.result some (c.as_it_is-n.ensures some))))
