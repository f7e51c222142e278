-- Laws of comparing encoded parts, and of the verdict. Assumes nothing.
use Prim.Native.Nat.{ℕ, compare, Ordering}
use native.Mathlib.Omega.{arith}
use mathlib.Core.Path.{◌≡◌, refl, sym, ap, ◌∙◌}
use mathlib.Core.List.{List, [], ◌∷◌, map}
use mathlib.Core.Bool.{Bool, true, false, cond, ◌&&◌, ◌||◌, false≢true}
use lib.Dec.{eqb, compare_is_eq}
use Rattle.std.proofs.Common.{inl, inr, ◌⊎◌, ◌≢◌}
use Rattle.std.specs.Bool.{Decides}
use Rattle.std.specs.Str.{bytes_eq}
use Rattle.std.specs.Char.{to_ascii_lowercase as lowercase}
use Rattle.std.specs.Cmp.Lexicographic.{pointwise}
use Rattle.std.proofs.lemmas.Bool.Decides.{nat_tests}
use Rattle.std.proofs.lemmas.Slice.Eq.{bytes_eq-Decides}
use Rattle.format.specs.Format.{Format}
use Rattle.model.specs.Maps as model
use Rattle.model.specs.Maps.{when◌then◌else◌, by, by_name, same_text}
use Rattle.model.specs.Formats.{same}
use Rattle.model.specs.Merge.{Verdict, lower, to_ascii_lowercase, verdict}
use Rattle.comparison.specs.Bytes.{same_folded, raw}
use Rattle.comparison.specs.Which.{number_of, which_of}
use Rattle.comparison.specs.declared.Which.TheVariants.{Merged, Conflicts, Refused}

-- the model's comparison, byte by byte
pub same_nil : same_text [] [] ≡ true
unfolding same_text by_name
same_nil = refl

pub same_short : (y : ℕ) (ys : List ℕ) → same_text [] (y ∷ ys) ≡ false
unfolding same_text by_name
same_short y ys = refl

pub same_long : (x : ℕ) (xs : List ℕ) → same_text (x ∷ xs) [] ≡ false
unfolding same_text by_name
same_long x xs = refl

pub same_cons : (x y : ℕ) (xs ys : List ℕ) → same_text (x ∷ xs) (y ∷ ys) ≡ (eqb x y && same_text xs ys)
unfolding same_text by_name by
same_cons x y xs ys = go (compare x y)
  where
    go : (o : Ordering) → compare_is_eq (by o Ordering.lt (by_name xs ys) Ordering.gt) ≡ (compare_is_eq o && compare_is_eq (by_name xs ys))
    go Ordering.lt = refl
    go Ordering.eq = refl
    go Ordering.gt = refl

-- the language's comparison is the model's
pub equal_same : (a b : List ℕ) → pointwise eqb a b ≡ same_text a b
equal_same [] [] = sym same_nil
equal_same [] (y ∷ ys) = sym (same_short y ys)
equal_same (x ∷ xs) [] = sym (same_long x xs)
equal_same (x ∷ xs) (y ∷ ys) = ap (λ (c : Bool). eqb x y && c) (equal_same xs ys) ∙ sym (same_cons x y xs ys)

-- two comparisons of texts but for ASCII case
lower_is : (b : ℕ) → lower b ≡ lowercase b
unfolding lower when◌then◌else◌
lower_is b = grind (arith, nat_tests)

lowers : (a : List ℕ) → to_ascii_lowercase a ≡ map lowercase a
unfolding to_ascii_lowercase model.map
lowers [] = refl
lowers (b ∷ a) = rw (lower_is b) (ap (λ (l : List ℕ). lowercase b ∷ l) (lowers a))

pub folded_tells : (a b : List ℕ) → ((same_folded a b ≡ true) × (map lowercase a ≡ map lowercase b)) ⊎ ((same_folded a b ≡ false) × (map lowercase a ≢ map lowercase b))
unfolding same_folded
folded_tells a b = rw (lowers a, lowers b, ← equal_same (map lowercase a) (map lowercase b)) (go (bytes_eq (map lowercase a) (map lowercase b)) (bytes_eq-Decides (map lowercase a) (map lowercase b)))
  where
    go : {P : Type 0} (r : Bool) → Decides r P → ((r ≡ true) × P) ⊎ ((r ≡ false) × ¬ P)
    go true d = inl (refl, d.0 refl)
    go false d = inr (refl, λ p. false≢true (d.1 p))

pub verdict_is : (b o t : List ℕ) (owned : Bool) → verdict raw b o t owned
    ≡ cond (same_text o b || same_text o t) Verdict.Theirs (cond owned (cond (same_text t b) Verdict.Ours Verdict.Conflict) Verdict.Refused)
unfolding verdict same when◌then◌else◌
verdict_is b o t owned = grind (arith, nat_tests)

-- values are judged by their bytes
pub verdict_raw : {A : Type 0} (f : Format A) (b o t : A) (owned : Bool) → verdict raw (f.enc b) (f.enc o) (f.enc t) owned ≡ verdict f b o t owned
unfolding verdict same
verdict_raw f b o t owned = refl

-- what is chosen by the number of a number's part is what is chosen by the number itself
pub asked : {A : Type 0} (n : ℕ) (merged conflicts refused : A)
    → cond (eqb (number_of (which_of n)) 0) merged (cond (eqb (number_of (which_of n)) 1) conflicts refused) ≡ cond (eqb n 0) merged (cond (eqb n 1) conflicts refused)
unfolding which_of
asked n merged conflicts refused = go (eqb n 0) (eqb n 1)
  where
    go : (x y : Bool) → cond (eqb (number_of (cond x Merged (cond y Conflicts Refused))) 0) merged (cond (eqb (number_of (cond x Merged (cond y Conflicts Refused))) 1) conflicts refused)
        ≡ cond x merged (cond y conflicts refused)
    go true y = refl
    go false true = refl
    go false false = refl
