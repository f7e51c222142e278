use Rattle.observe.proofs.Observing as observing
use Rattle.observe.proofs.observations.watch_unless_done.Goals as goal

pub returns-then-is_done : goal.returns-then-is_done
returns-then-is_done c = observing.watches_not _ c.args.p c.is_done.ensures c.if-is_done.true

pub returns : goal.returns
returns c = observing.watches _ c.is_done.ensures c.if-is_done.false c.watch.ensures
