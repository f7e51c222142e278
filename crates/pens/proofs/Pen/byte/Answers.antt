use Rattle.pens.proofs.Laws as laws
use mathlib.Core.List.{[], ◌∷◌}
use borrow.Author.Rules.{rules}
use Rattle.pens.proofs.Pen.byte.Goals as goal

pub returns-then-not-self : goal.returns-then-not-self
returns-then-not-self c = laws.wrote_stopped c.args.out.now c.args.self (c.args.b ∷ []) c.if-not-self.true

pub returns-then-out-at : goal.returns-then-out-at
returns-then-out-at c = laws.wrote_end c.args.out.now c.args.self c.args.b (search rules)

pub returns : goal.returns
returns c = laws.wrote_part c.args.out.now _ (c.args.b ∷ []) c.args.self c.if-not-self.false (search rules) (laws.set_bytes c.args.out.now c.args.b c.args.self.at (search rules))
