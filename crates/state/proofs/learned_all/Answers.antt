use Rattle.state.proofs.Ops as ops
use Rattle.state.proofs.learned_all.Goals as goal

pub returns : goal.returns
returns c = ops.read_learned_all c.args.work.now _ c.get_be.ensures
