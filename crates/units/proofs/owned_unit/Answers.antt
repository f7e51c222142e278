use Rattle.units.proofs.Laws as laws
use borrow.Author.Rules.{rules}
use Rattle.units.proofs.owned_unit.Goals as goal

pub returns-then-k-eq10 : goal.returns-then-k-eq10
returns-then-k-eq10 c = laws.owned_ten c.args.owner c.args.k (search rules)

pub returns : goal.returns
returns c = laws.owned_other c.args.owner c.args.k (search rules)
