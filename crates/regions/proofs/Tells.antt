-- Tests that say exactly whether something holds, one behind the other. Assumes nothing.
use Rattle.std.specs.Prelude.{◌≡◌, Bool, true, false}
use Rattle.std.proofs.Common.{sym, ◌∙◌}
use Rattle.tables.proofs.Laws.{false_true}

-- v is true exactly where P holds
pub record Tells (v : Bool) (P : Type 0) : Type 0 where
  pub yes : v ≡ true → P
  pub no : P → v ≡ true

pub told : {v : Bool} {P : Type 0} → (v ≡ true → P) × (P → v ≡ true) → Tells v P
told h = record { yes = h.0; no = h.1 }

-- the value v of `a && b`: b's where a is true, else a's
pub and_then : {a b v : Bool} {P Q : Type 0} → Tells a P → a ≡ true → Tells b Q → v ≡ b → Tells v (P × Q)
and_then A h B e = record { yes = λ y. (A.yes h, B.yes (sym e ∙ y)); no = λ p. e ∙ B.no p.1 }

pub and_else : {a v : Bool} {P Q : Type 0} → Tells a P → a ≡ false → v ≡ a → Tells v (P × Q)
and_else A h e = record { yes = λ y. absurd (false_true (sym h ∙ sym e ∙ y)); no = λ p. e ∙ A.no p.0 }
