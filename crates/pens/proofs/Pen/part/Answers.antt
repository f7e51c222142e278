use Rattle.pens.proofs.Laws as laws
use mathlib.Core.Path.{ap, ◌∙◌}
use mathlib.Core.List.{List, ◌++◌}
use Prim.Native.Nat.{ℕ, ◌-◌}
use borrow.Author.Rules.{rules}
use lib.ListN.{length, take, drop}
use Rattle.pens.proofs.Pen.part.Goals as goal

pub returns-then-not-self : goal.returns-then-not-self
returns-then-not-self c = laws.wrote_stopped c.args.out.now c.args.self c.args.bytes.now c.if-not-self.true

pub returns-then-out-at : goal.returns-then-out-at
returns-then-out-at c = laws.wrote_past c.args.out.now c.args.self c.args.bytes.now (search rules)

pub returns-then-out-at-2 : goal.returns-then-out-at-2
returns-then-out-at-2 c = laws.wrote_full c.args.out.now c.args.self c.args.bytes.now (search rules) (search rules)

pub returns : goal.returns
returns c =
    let s = c.args.out.now in
    let x = c.args.bytes.now in
    let at = c.args.self.at in
    laws.wrote_part s _ x c.args.self c.if-not-self.false (search rules) (ap (λ (t : List ℕ). take at s ++ (t ++ drop (length s - at) (drop at s))) c.copy_into.ensures ∙ laws.put_bytes s x at (search rules))
