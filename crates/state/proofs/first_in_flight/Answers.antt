use Rattle.state.proofs.Ops as ops
use Rattle.state.proofs.first_in_flight.Goals as goal

pub returns-then-work-eq0 : goal.returns-then-work-eq0
returns-then-work-eq0 c = ops.flight_none c.args.work.now c.if-work-eq0.true

pub returns-else-work-eq0 : goal.returns-else-work-eq0
returns-else-work-eq0 c = ops.flight_first c.args.work.now _ c.if-work-eq0.false c.get_be.ensures
