use Rattle.state.proofs.Ops as ops
use Rattle.state.proofs.key_of.Goals as goal

pub returns : goal.returns
returns c = ops.key_is c.args.n c.to_be_bytes.result c.slot.result c.to_be_bytes.ensures c.slot.ensures
