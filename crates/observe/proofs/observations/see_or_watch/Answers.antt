use Rattle.observe.proofs.Observing as observing
use Rattle.observe.proofs.observations.see_or_watch.Goals as goal

pub returns-then-is_done : goal.returns-then-is_done
returns-then-is_done c = observing.marks_seen _ c.is_done.ensures c.if-is_done.true c.see.ensures

pub returns : goal.returns
returns c = observing.marks_watched _ c.is_done.ensures c.if-is_done.false c.watch.ensures
