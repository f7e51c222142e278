use Rattle.engine.proofs.Laws as laws
use Rattle.engine.proofs.ended.Goals as goal

pub returns-then-code-ne0 : goal.returns-then-code-ne0
returns-then-code-ne0 c = laws.ends_refused c.args.p _ _ _ _ _ _ c.if-code-ne0.true c.refused.ensures

pub accepted-requires : goal.accepted-requires
accepted-requires c = (c.requires.0, c.requires.1 c.if-code-ne0.false)

pub returns : goal.returns
returns c = laws.ends_accepted c.args.p _ _ _ _ _ _ _ (c.requires.1 c.if-code-ne0.false) c.if-code-ne0.false c.accepted.ensures
