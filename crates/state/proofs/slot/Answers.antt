use Rattle.state.proofs.Ops as ops
use Rattle.state.proofs.slot.Goals as goal

pub returns : goal.returns
returns g c = ops.slot_made g.row.N c.args.key.now c.args.value.now c.put_slot.new.region c.put_slot-2.new.region c.put_slot.ensures c.put_slot-2.ensures
