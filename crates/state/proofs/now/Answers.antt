use Rattle.state.proofs.Ops as ops
use Rattle.state.proofs.now.Goals as goal

pub returns-then-work-eq0 : goal.returns-then-work-eq0
returns-then-work-eq0 c = ops.now_none c.args.work.now c.if-work-eq0.true

pub returns-else-work-eq0 : goal.returns-else-work-eq0
returns-else-work-eq0 c = ops.now_some c.args.work.now c.get_be.result c.cast_signed.result c.get_be.type_inv c.if-work-eq0.false c.get_be.ensures c.cast_signed.ensures
