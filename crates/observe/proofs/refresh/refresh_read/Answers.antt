use Rattle.observe.proofs.Refreshing as refreshing
use Rattle.observe.proofs.refresh.refresh_read.Goals as goal

pub returns-then-doubtful : goal.returns-then-doubtful
returns-then-doubtful c = refreshing.found_doubted c.args.id _ _ c.doubtful.ensures c.if-doubtful.true c.doubt.ensures

pub returns : goal.returns
returns c = refreshing.found_sure c.args.id _ _ c.args.out.now c.doubtful.ensures c.if-doubtful.false c.observe_read.ensures
