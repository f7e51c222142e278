-- `None` and `Some` are different, and `Some` is injective.
use Rattle.std.specs.Prelude.{◌≡◌, ◌↔◌, None, Some}
use Rattle.std.proofs.Common.{ap}

module _ {A : Type 0} where
  pub Some-injective : (a b : A) → Some a ≡ Some b → a ≡ b
  Some-injective a b e = cc

  pub Some_inj : {a b : A} → (Some a ≡ Some b) ↔ (a ≡ b)
  Some_inj {a} {b} = (Some-injective a b, ap Some)

  pub None-ne-Some : (a : A) → ¬ (None ≡ Some a)
  None-ne-Some a e = cc

  pub Some-ne-None : (a : A) → ¬ (Some a ≡ None)
  Some-ne-None a e = cc
