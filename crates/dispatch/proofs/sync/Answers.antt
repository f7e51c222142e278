use Rattle.dispatch.proofs.Laws as laws
use Rattle.dispatch.proofs.sync.Goals as goal

pub returns-then-is_open : goal.returns-then-is_open
returns-then-is_open c = laws.sync_open c.is_open.ensures c.if-is_open.true

pub returns-else-is_open : goal.returns-else-is_open
returns-else-is_open c = laws.sync_starts c.is_open.ensures c.if-is_open.false c.start_pass.ensures
