-- The endings of a call, in the words of the model's `entry`. Assumes nothing.
use Prim.Native.Nat.{ℕ, ◌-◌, ◌≤◌}
use native.Mathlib.Omega.{arith}
use mathlib.Core.Path.{◌≡◌, ap, ◌∙◌, subst}
use mathlib.Core.List.{List, [], ◌++◌, append-nil}
use mathlib.Core.Bool.{Bool, true, false, ◌&&◌}
use lib.ListN.{length, take, drop, drop_of_length-le, length-drop}
use lib.Seq.{length-take-le}
use lib.Dec.{T, eqb, leb, eqb→eq, leb→le}
use borrow.Author.Tests.{eq-eqb, ne_eqb}
use Rattle.spans.specs.Bytes.{zeros}
use Rattle.spans.proofs.Laws.{tail_mid, tail_put}
use Rattle.model.specs.Limits.{document01, max_effects}
use Rattle.model.specs.Sizes.{buffer_length}
use Rattle.model.specs.Entry.{lengths_right, leaves}
use Rattle.model.proofs.Sizes.{document01_length}
use Rattle.model.proofs.Tables.{and_left, and_right}
use Rattle.machine.specs.declared.Progress.{Progress}
use Rattle.engine.specs.declared.Answer.{Answer}
use Rattle.engine.specs.Answers.{lent, returned, Ends}

-- ---- the lengths

module _ (s w o : List ℕ) where
  pub wrong_state : (length s ≡ 58543 → ⊥) → false ≡ lengths_right document01 (lent s w o)
  unfolding lengths_right
  wrong_state n = rw (document01_length, ne_eqb (length s) 58543 n)

  pub wrong_work : length s ≡ 58543 → (length w ≡ 58543 → ⊥) → false ≡ lengths_right document01 (lent s w o)
  unfolding lengths_right
  wrong_work e n = rw (document01_length, eq-eqb (length s) 58543 e, ne_eqb (length w) 58543 n)

  pub by_output : length s ≡ 58543 → length w ≡ 58543 → leb 32768 (length o) ≡ lengths_right document01 (lent s w o)
  unfolding lengths_right max_effects
  by_output e h = rw (document01_length, eq-eqb (length s) 58543 e, eq-eqb (length w) 58543 h)

  abbrev same_state : Bool
  same_state = eqb (length s) (buffer_length document01)

  abbrev same_work : Bool
  same_work = eqb (length w) (buffer_length document01)

  abbrev enough : Bool
  enough = leb max_effects (length o)

  pub right_work : true ≡ lengths_right document01 (lent s w o) → length w ≡ 58543
  unfolding lengths_right
  right_work e =
      eqb→eq (length w) (buffer_length document01) (and_left same_work enough (and_right same_state (same_work && enough) (subst T e tt)))
      ∙ document01_length

  pub right_out : true ≡ lengths_right document01 (lent s w o) → 32768 ≤ length o
  unfolding lengths_right max_effects
  right_out e = leb→le 32768 (length o) (and_right same_work enough (and_right same_state (same_work && enough) (subst T e tt)))

-- ---- the endings

-- a buffer zeroed from `at` on
pub zeroed : (s : List ℕ) (at : ℕ) (ys : List ℕ) → at ≤ length s → ys ≡ zeros (length (take (length s - at) (drop at s)))
    → take at s ++ (ys ++ drop (length s - at) (drop at s)) ≡ take at s ++ zeros (length s - at)
zeroed s at ys h e =
    let k : length (take (length s - at) (drop at s)) ≡ length s - at = ap length (tail_mid s at) ∙ length-drop at s in
    tail_put s ys at ∙ ap (λ (l : List ℕ). take at s ++ l) (e ∙ ap zeros k)

-- a copy over all of a buffer
pub copied : (dst src : List ℕ) → length dst ≡ length src → src ++ drop (length src) dst ≡ src
copied dst src e =
    let h : length dst ≤ length src = omega arith in
    ap (λ (l : List ℕ). src ++ l) (drop_of_length-le dst {i = length src} h) ∙ append-nil src

pub refused_is : (r : Answer) (code : ℕ) (s w o w' o' : List ℕ) → r.code ≡ code → r.length ≡ 0 → w' ≡ zeros (length w) → o' ≡ zeros (length o)
    → returned r s w' o' ≡ leaves code s [] (lent s w o)
unfolding leaves
refused_is r code s w o w' o' a b e h =
    let k : length o - 0 ≡ length o = omega arith in
    rw (a, b, e, h, k)

pub accepted_is : (r : Answer) (at : ℕ) (s w o s' w' o' : List ℕ) → at ≤ length o → r.code ≡ 0 → r.length ≡ at → s' ≡ w → w' ≡ zeros (length w) → o' ≡ take at o ++ zeros (length o - at)
    → returned r s' w' o' ≡ leaves 0 w (take at o) (lent s w o)
unfolding leaves
accepted_is r at s w o s' w' o' l a b d e h =
    let k : length (take at o) ≡ at = length-take-le at o l in
    rw (a, b, d, e, h, k)

pub ends_refused : (p : Progress) (r : Answer) (s w o w' o' : List ℕ) → (p.code ≡ 0 → ⊥)
    → (r.code ≡ p.code) × (r.length ≡ 0) × (w' ≡ zeros (length w)) × (o' ≡ zeros (length o)) → Ends p s w o r s w' o'
ends_refused p r s w o w' o' n e = record {
  refused = λ m. refused_is r p.code s w o w' o' e.0 e.1 e.2 e.3;
  accepted = λ z. absurd (n z);
}

pub ends_accepted : (p : Progress) (r : Answer) (s w o s' w' o' : List ℕ) → p.at ≤ length o → p.code ≡ 0
    → (r.code ≡ 0) × (r.length ≡ p.at) × (s' ≡ w) × (w' ≡ zeros (length w)) × (o' ≡ take p.at o ++ zeros (length o - p.at)) → Ends p s w o r s' w' o'
ends_accepted p r s w o s' w' o' l z e = record {
  refused = λ n. absurd (n z);
  accepted = λ z. accepted_is r p.at s w o s' w' o' l e.0 e.1 e.2 e.3 e.4;
}
