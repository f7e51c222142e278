use Rattle.clerks_bytes.proofs.NameLaws.{repeat_next}
use Rattle.pens.proofs.Laws.{wrote_nothing, wrote_then, wrote_as}
use mathlib.Core.Path.{◌≡◌, ap}
use lib.ListN.{replicate}
use Prim.Native.Nat.{ℕ}
use native.Mathlib.Omega.{arith}
use borrow.Author.Rules.{rules}
use Rattle.clerks_bytes.proofs.names.repeated.Goals as goal

pub loop-i-init : goal.loop-i-init
loop-i-init c = (search rules, wrote_nothing c.args.out.now c.args.pen)

pub loop-i-preserved : goal.loop-i-preserved
loop-i-preserved c = (search rules, wrote_as (wrote_then c.loop-i.invariant.1 c.byte-next.ensures) (repeat_next c.loop-i.i c.args.name))

pub shape_of-out : goal.shape_of-out
shape_of-out c = c.loop-i.invariant.1.long

pub returns : goal.returns
returns c = let e : c.loop-i.i ≡ c.args.times = omega (arith, c.loop-i.invariant.0, c.loop-i-test.false) in wrote_as c.loop-i.invariant.1 (ap (λ (n : ℕ). replicate n c.args.name) e)
