use mir.Facts.{to_z-of_z}
use Rattle.frame.proofs.Times.{in_time, no_time}
use Rattle.frame.proofs.is_time.Goals as goal

pub returns-then-v-geminus200000000000000 : goal.returns-then-v-geminus200000000000000
returns-then-v-geminus200000000000000 c =
    let e = to_z-of_z c.ranges.v in
    in_time c.args.v _ e c.if-v-geminus200000000000000.true

pub returns : goal.returns
returns c =
    let e = to_z-of_z c.ranges.v in
    no_time c.args.v _ e c.if-v-geminus200000000000000.false
