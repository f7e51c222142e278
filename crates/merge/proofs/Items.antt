-- What is written of a merged value: the bytes of the value's items, of its conflicts, or of its refused. Assumes nothing.
use Rattle.std.specs.Prelude.{Option, Some, None}
use Prim.Native.Nat.{ℕ}
use mathlib.Core.Path.{◌≡◌, refl, ap}
use mathlib.Core.List.{List, [], ◌∷◌, ◌++◌}
use mathlib.Core.Bool.{Bool, true, false, cond}
use lib.Dec.{eqb}
use lib.ListN.{length}
use Rattle.format.specs.Format.{concat_map}
use Rattle.model.specs.Event.{Attendee}
use Rattle.model.specs.Merge.{Merged}
use Rattle.model.specs.Formats.{attendee_f, conflict_f, refused_f}
use Rattle.pens.specs.Writing.{flat}

-- the bytes of each
module _ {A : Type 0} where
  abbrev pub encs : (A → List ℕ) → List A → List (List ℕ)
  encs f [] = []
  encs f (x ∷ l) = f x ∷ encs f l

  pub encs_append : (f : A → List ℕ) (a b : List A) → encs f (a ++ b) ≡ encs f a ++ encs f b
  encs_append f [] b = refl
  encs_append f (x ∷ a) b = ap (λ (l : List (List ℕ)). f x ∷ l) (encs_append f a b)

  pub encs_flat : (f : A → List ℕ) (l : List A) → flat (encs f l) ≡ concat_map f l
  encs_flat f [] = refl
  encs_flat f (x ∷ l) = ap (λ (r : List ℕ). f x ++ r) (encs_flat f l)

  pub encs_length : (f : A → List ℕ) (l : List A) → length (encs f l) ≡ length l
  encs_length f [] = refl
  encs_length f (x ∷ l) = rw (encs_length f l)

abbrev pub one_item : Option Attendee → List (List ℕ)
one_item None = []
one_item (Some a) = attendee_f.enc a ∷ []

-- one of three lists, by which is asked for
abbrev pub one_of : ℕ → List (List ℕ) → List (List ℕ) → List (List ℕ) → List (List ℕ)
one_of which a b c = cond (eqb which 0) a (cond (eqb which 1) b c)

pub one_same : (which : ℕ) {a b c d e f : List (List ℕ)} → a ≡ d → b ≡ e → c ≡ f → one_of which a b c ≡ one_of which d e f
one_same which p q r = rw (p, q, r)

pub one_none : (which : ℕ) → one_of which [] [] [] ≡ []
one_none which = go (eqb which 0) (eqb which 1)
  where
    go : (x y : Bool) → ◌≡◌ {A = List (List ℕ)} (cond x [] (cond y [] [])) []
    go true y = refl
    go false true = refl
    go false false = refl

pub one_append : (which : ℕ) (a b c d e f : List (List ℕ)) → one_of which (a ++ d) (b ++ e) (c ++ f) ≡ one_of which a b c ++ one_of which d e f
one_append which a b c d e f = go (eqb which 0) (eqb which 1)
  where
    go : (x y : Bool) → cond x (a ++ d) (cond y (b ++ e) (c ++ f)) ≡ cond x a (cond y b c) ++ cond x d (cond y e f)
    go true y = refl
    go false true = refl
    go false false = refl

-- of the merged value (0), the conflicts (1), the refused (2)
abbrev pub items : {A : Type 0} → ℕ → (A → List (List ℕ)) → Merged A → List (List ℕ)
items which f m = one_of which (f m.value) (encs conflict_f.enc m.conflicts) (encs refused_f.enc m.refused)
