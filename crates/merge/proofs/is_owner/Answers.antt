use Rattle.merge.proofs.Laws as laws
use Rattle.merge.proofs.is_owner.Goals as goal

pub returns-then-role-eq0 : goal.returns-then-role-eq0
returns-then-role-eq0 c = laws.owner_none c.args.role.now c.if-role-eq0.true

pub returns : goal.returns
returns c = laws.owner_first c.args.role.now c.if-role-eq0.false
