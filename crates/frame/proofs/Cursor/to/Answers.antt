use mathlib.Core.Path.{◌≡◌, ap}
use Prim.Native.Nat.{ℕ, ◌-◌}
use native.Mathlib.Omega.{arith}
use Rattle.frame.proofs.Cursor.to.Goals as goal

pub returns-then-end-at : goal.returns-then-end-at
returns-then-end-at c =
    let e : 0 ≡ c.args.next.at - c.args.self.at = omega arith in
    ap (λ (n : ℕ). record { at = c.args.self.at; length = n }) e
