use Rattle.state.proofs.Ops as ops
use Rattle.state.proofs.set_learned_all.Goals as goal

pub returns : goal.returns
returns c = ops.put_learned_all c.args.work.now c.put_be.new.dst c.args.n c.ranges.n.fits c.put_be.ensures
