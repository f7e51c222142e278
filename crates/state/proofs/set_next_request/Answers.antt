use Rattle.state.proofs.Ops as ops
use Rattle.state.proofs.set_next_request.Goals as goal

pub returns : goal.returns
returns c = ops.put_next_request c.args.work.now c.put_be.new.dst c.args.n c.ranges.n.fits c.put_be.ensures
