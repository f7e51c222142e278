use Rattle.state.proofs.Ops as ops
use Rattle.state.proofs.next_request.Goals as goal

pub returns : goal.returns
returns c = ops.read_next_request c.args.work.now _ c.get_be.ensures
