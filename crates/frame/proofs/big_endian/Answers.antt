use native.Mathlib.Nat.{sub-zero, add-zero}
use lib.Dec.{lit<}
use Rattle.frame.proofs.Digits.{digits_step, digits_end}
use Prim.Native.Nat.{◌+◌, ◌<◌}
use native.Mathlib.Omega.{arith}
use mathlib.Core.Path.{◌∙◌}
use borrow.Author.Rules.{rules}
use Rattle.numbers.proofs.Laws.{room_64, more_bytes}
use Rattle.frame.proofs.big_endian.Goals as goal

pub loop-i-init : goal.loop-i-init
loop-i-init c = (search rules, lit< tt, rw (sub-zero, add-zero))

pub overflow_mul-v : goal.overflow_mul-v
overflow_mul-v c = record { fits = let h = room_64 c.loop-i.v c.loop-i.i 0 c.loop-i.invariant.1 (omega arith) (lit< tt) in omega arith }

pub overflow_add-v : goal.overflow_add-v
overflow_add-v c =
    let b : c.wide64.result < 256 = omega (arith, c.wide64.ensures, c.type_inv.frame (c.args.at + c.loop-i.i)) in
    let l = c.loop-i in
    record { fits = room_64 l.v l.i c.wide64.result l.invariant.1 (omega arith) b }

pub loop-i-preserved : goal.loop-i-preserved
loop-i-preserved c =
    let b : c.wide64.result < 256 = omega (arith, c.wide64.ensures, c.type_inv.frame (c.args.at + c.loop-i.i)) in
    let l = c.loop-i in
    let a = c.args in (
      search rules,
      more_bytes l.v l.i c.wide64.result l.invariant.1 b,
      l.invariant.2 ∙ digits_step a.frame.now a.at a.w l.i l.v c.wide64.result (search rules) (search rules) c.wide64.ensures b,
    )

pub returns : goal.returns
returns c =
    let l = c.loop-i in
    let a = c.args in
    digits_end a.frame.now a.at a.w l.i l.v l.invariant.0 (search rules) l.invariant.2
