-- What is left behind a value in its width. Assumes nothing.
use Rattle.std.specs.Prelude.{ℕ, ◌≡◌, List, [], ◌∷◌, Option, Some, None, Bool, true, false, cond, eqb, leb, take, drop, length}
use mathlib.Core.Bool.{◌&&◌}
use Rattle.std.proofs.Common.{refl, sym, ap, ◌∙◌}
use Rattle.format.specs.Format.{Got, Format, ◌⊗◌, only_zeros, and_then}
use Rattle.format.specs.Format.{padded as in-width}
use Rattle.spans.specs.Bytes.{both, all_zero}
use Rattle.reader.specs.Left.{rest, left, after, past}
use Rattle.reader.specs.declared.Reader.{Reader}
use Rattle.reader.proofs.Laws.{pair_after, onward}
use Rattle.regions.specs.Tests.{zeros_left}
use Rattle.wellformed.specs.Fields.{in_width}

joined : (x : Bool) {v w : Bool} → v ≡ w → (x && v) ≡ both x w
joined true e = e
joined false e = refl

zeros_are : (s : List ℕ) → only_zeros s ≡ all_zero s
unfolding only_zeros all_zero
zeros_are [] = refl
zeros_are (b ∷ s) = joined (eqb b 0) (zeros_are s)

pub in_width_is : {A : Type 0} (w : ℕ) (f : Format A) (s : List ℕ) → in_width w (after f) s ≡ after (in-width w f) s
unfolding after in-width
in_width_is {A} w f s = go (leb w (length s))
  where
    last : (a : A) (t : List ℕ) (b : Bool) → cond b (Some (drop w s)) None ≡ past {A = A} (cond b (Some (a, drop w s)) None)
    last a t true = refl
    last a t false = refl

    one : (x : Got A) → cond (zeros_left (past x)) (Some (drop w s)) None ≡ past {A = A} (and_then x (λ a rest. cond (only_zeros rest) (Some (a, drop w s)) None))
    one None = refl
    one (Some r) = ap (λ b. cond b (Some (drop w s)) None) (sym (zeros_are r.1)) ∙ last r.0 r.1 (only_zeros r.1)

    go : (b : Bool) → cond b (cond (zeros_left (past (f.dec (take w s)))) (Some (drop w s)) None) None
        ≡ past {A = A} (cond b (and_then (f.dec (take w s)) (λ a rest. cond (only_zeros rest) (Some (a, drop w s)) None)) None)
    go true = one (f.dec (take w s))
    go false = refl

-- a walk past one value and then another: it goes on behind the first, or ends there
module _ {A B : Type 0} (f : Format A) (g : Format B) (s : List ℕ) {o : Option Reader} where
  pub goes_on : {r : Reader} → left o ≡ after f s → o ≡ Some r → after (f ⊗ g) s ≡ after g (rest r)
  goes_on e h = pair_after f g s ∙ ap (λ x. onward x (after g)) (sym e ∙ ap left h)

  pub ends_here : left o ≡ after f s → o ≡ None → after (f ⊗ g) s ≡ None
  ends_here e h = pair_after f g s ∙ ap (λ x. onward x (after g)) (sym e ∙ ap left h)
