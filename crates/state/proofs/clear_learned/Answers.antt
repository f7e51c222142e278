use Rattle.state.proofs.Columns as columns
use Rattle.state.proofs.Ops as ops
use Rattle.state.proofs.clear_learned.Goals as goal

pub returns : goal.returns
returns c = columns.emptied ops.learned_column c.args.work.now c.clear.new.work ops.always c.clear.ensures
