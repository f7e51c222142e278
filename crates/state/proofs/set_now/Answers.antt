use mir.Facts.{to_z-of_z}
use Rattle.state.proofs.Ops as ops
use Rattle.state.proofs.set_now.Goals as goal

pub returns : goal.returns
returns c = ops.now_put c.args.now c.to_be_bytes.result c.slot-bytes.result c.args.work.now c.put_slot.new.region (to_z-of_z c.ranges.now) c.to_be_bytes.ensures c.slot-bytes.ensures c.put_slot.ensures
