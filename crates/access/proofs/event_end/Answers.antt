use Rattle.access.proofs.Laws.{event_at}
use Rattle.access.proofs.event_end.Goals as goal

pub returns : goal.returns
returns c = event_at c.args.state.now c.args.at _ c.event_in-c.ensures
