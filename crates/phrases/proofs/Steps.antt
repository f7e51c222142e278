-- Laws of the text of rules. Assumes nothing.
use Prim.Native.Nat.{ℕ, ◌+◌, ◌-◌}
use native.Mathlib.Omega.{arith}
use mathlib.Core.Path.{◌≡◌, refl, ap}
use mathlib.Core.List.{List, [], ◌∷◌}
use mathlib.Core.Bool.{Bool, true, false, cond, not}
use lib.Dec.{T}
use lib.ListN.{length, take, drop}
use Rattle.std.specs.List.{position, position_or_len}
use Rattle.std.specs.Option.{unwrap_or}
use Rattle.std.proofs.lemmas.Bool.Decides.{nat_tests}
use Rattle.std.proofs.lemmas.List.Sums.{prefix_len-le-length}
use Rattle.std.proofs.lemmas.Grind.{common_steps}
use Rattle.comparison.specs.Bytes.{span}
use Rattle.phrases.specs.Shown.{plain_byte, plain}
use Rattle.phrases.specs.Rules.{ends_step, step_of, step_at}
use Rattle.phrases.proofs.Printed.{both, left, right, plain_drop}

-- the step is what stands up to its end
pub step_prefix : (s : List ℕ) → take (length (step_of s)) s ≡ step_of s
step_prefix [] = refl
step_prefix (b ∷ s) = go (ends_step b) (step_prefix s)
  where
    go : (e : Bool) → take (length (step_of s)) s ≡ step_of s → take (length (cond e [] (b ∷ step_of s))) (b ∷ s) ≡ cond e [] (b ∷ step_of s)
    go true k = refl
    go false k = ap (λ (t : List ℕ). b ∷ t) k

-- the step ends at the first byte that ends one
step_length : (s : List ℕ) → length (step_of s) ≡ position_or_len ends_step s
step_length [] = refl
step_length (b ∷ s) = go (ends_step b) (step_length s)
  where
    go : (e : Bool) → length (step_of s) ≡ position_or_len ends_step s → length (cond e [] (b ∷ step_of s)) ≡ cond (not e) (1 + position_or_len ends_step s) 0
    go true h = refl
    go false h = omega arith

pub step_first : (s : List ℕ) → length (step_of s) ≡ unwrap_or (position ends_step s) (length s)
step_first s = let b = prefix_len-le-length (λ x. not (ends_step x)) s in let l = step_length s in grind (arith, nat_tests)

pub rest_all : (s : List ℕ) (at : ℕ) → span s at (length s) ≡ drop at s
rest_all s at = grind (arith, common_steps)

-- a step of a plain text is plain
plain_step_of : (s : List ℕ) → T (plain s) → T (plain (step_of s))
plain_step_of [] t = tt
plain_step_of (b ∷ s) t = go (ends_step b) (both (plain_byte b) (plain (step_of s)) (left (plain_byte b) (plain s) t) (plain_step_of s (right (plain_byte b) (plain s) t)))
  where
    go : (e : Bool) → T (plain (b ∷ step_of s)) → T (plain (cond e [] (b ∷ step_of s)))
    go true k = tt
    go false k = k

pub plain_step : (s : List ℕ) (i : ℕ) → T (plain s) → T (plain (step_at s i))
plain_step s i t = plain_step_of (drop i s) (plain_drop i s t)

pub step_span : (s : List ℕ) (at end : ℕ) → end ≡ at + length (step_at s at) → span s at end ≡ step_at s at
step_span s at end e =
    let k : end - at ≡ length (step_at s at) = omega arith in
    rw k (step_prefix (drop at s))
