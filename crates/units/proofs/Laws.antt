-- Laws of the units. Assumes nothing.
use Prim.Native.Nat.{ℕ, zero, suc, ◌+◌, ◌-◌, ◌≤◌, ◌<◌}
use native.Mathlib.Omega.{arith}
use native.Mathlib.Numerals.{add-one}
use mathlib.Core.Path.{◌≡◌, refl, sym, ap, ◌∙◌}
use mathlib.Core.List.{List, [], ◌∷◌, ◌++◌, append-nil, append_assoc}
use mathlib.Core.Bool.{Bool, true}
use borrow.Author.Tests.{eq-eqb, ne_eqb}
use Rattle.format.specs.Format.{below, option, list}
use Rattle.model.specs.Limits.{max_attendees}
use Rattle.model.specs.Formats.{short_text, tag, organizer_f, attendee_f}
use Rattle.model.specs.Merge.{Verdict}
use Rattle.frame.proofs.Chains.{skips_status, skips_transparency, skips_visibility}
use Rattle.frame.specs.Read.{skips, start}
use Rattle.frame.specs.declared.Cursor.{Cursor}
use Rattle.comparison.specs.Bytes.{is_conflict, is_refused, span}
use Rattle.comparison.specs.Which.{number_of, which_of}
use Rattle.comparison.specs.declared.Which.{Which}
use Rattle.comparison.proofs.Laws.{asked}
use Rattle.pens.specs.Writing.{Wrote, Listed}
use Rattle.pens.specs.declared.Pen.{Pen}
use Rattle.pens.proofs.Laws.{listed_one}
use Rattle.units.specs.Units.{skip_unit, unit_at, unit_bytes, unit_items, units_items, unit_conflict, conflict_items, refused_items, owned_unit}

pub owned_ten : (owner : Bool) (k : ℕ) → k ≡ 10 → true ≡ owned_unit owner k
owned_ten owner k h = rw (eq-eqb k 10 h)

pub owned_other : (owner : Bool) (k : ℕ) → (k ≡ 10 → ⊥) → owner ≡ owned_unit owner k
owned_other owner k h = rw (ne_eqb k 10 h)

module _ (s : List ℕ) (c : Cursor) (k : ℕ) where
  pub unit_0 : k ≡ 0 → skips (option short_text) s c ≡ skip_unit k s c
  unit_0 e = rw e

  pub unit_1 : k ≡ 1 → skips tag s c ≡ skip_unit k s c
  unit_1 e = rw e

  pub unit_2 : k ≡ 2 → skips (option tag) s c ≡ skip_unit k s c
  unit_2 e = rw e

  pub unit_3 : k ≡ 3 → skips (option organizer_f) s c ≡ skip_unit k s c
  unit_3 e = rw e

  pub unit_4 : k ≡ 4 → skips (list max_attendees attendee_f) s c ≡ skip_unit k s c
  unit_4 e = rw e

  pub unit_5 : k ≡ 5 → skips (option short_text) s c ≡ skip_unit k s c
  unit_5 e = rw e

  pub unit_6 : k ≡ 6 → skips (option tag) s c ≡ skip_unit k s c
  unit_6 e = rw e

  pub unit_7 : k ≡ 7 → skips (below 3) s c ≡ skip_unit k s c
  unit_7 e = rw e (sym (skips_status s c))

  pub unit_8 : k ≡ 8 → skips (below 2) s c ≡ skip_unit k s c
  unit_8 e = rw e (sym (skips_transparency s c))

  pub unit_9 : k ≡ 9 → skips (below 4) s c ≡ skip_unit k s c
  unit_9 e = rw e (sym (skips_visibility s c))

pub unit_10 : (s : List ℕ) (c : Cursor) (k : ℕ) → 10 ≤ k → skips tag s c ≡ skip_unit k s c
unit_10 s c k h =
    let e : k ≡ suc (suc (suc (suc (suc (suc (suc (suc (suc (suc (k - 10)))))))))) = omega arith in
    rw e

pub at_zero : (s : List ℕ) → start ≡ unit_at s 0
unfolding unit_at
at_zero s = refl

pub at_next : (s : List ℕ) (j : ℕ) (c d : Cursor) → c ≡ unit_at s j → d ≡ skip_unit j s c → d ≡ unit_at s (j + 1)
unfolding unit_at
at_next s j c d e f = rw (add-one j) (f ∙ ap (skip_unit j s) e)

-- what a unit writes

module _ {a b : List ℕ} {p q : Pen} {n m : ℕ} where
  pub conflict_some : (v : Verdict) (k : ℕ) (x y z : List ℕ) → is_conflict v ≡ true → Wrote a b p q (unit_conflict k x y z) → (n < 255 → m ≡ n + 1)
      → Listed a b p n q m (conflict_items v k x y z)
  conflict_some v k x y z e W h = rw e (listed_one n m W h)

  pub refused_some : (v : Verdict) (k : ℕ) → is_refused v ≡ true → Wrote a b p q (k ∷ 0 ∷ []) → (n < 255 → m ≡ n + 1) → Listed a b p n q m (refused_items v k)
  refused_some v k e W h = rw e (listed_one n m W h)

-- a unit's items are asked for by the part of a number as by the number
pub unit_asked : (n : ℕ) (w : Which) → w ≡ which_of n → (k : ℕ) (b o t : List ℕ) (owned : Bool) → unit_items (number_of w) k b o t owned ≡ unit_items n k b o t owned
unfolding unit_items
unit_asked n w e k b o t owned = rw e (asked n _ _ _)

-- the loop over the units

module _ (which : ℕ) (owner : Bool) (base ours theirs : List ℕ) where
  pub units_none : (k n : ℕ) → n ≡ 0 → [] ≡ units_items which owner base ours theirs k n
  unfolding units_items
  units_none k n e = rw e

  units_snoc : (k n : ℕ) → units_items which owner base ours theirs k n
      ++ unit_items which (k + n) (unit_bytes base (k + n)) (unit_bytes ours (k + n)) (unit_bytes theirs (k + n)) (owned_unit owner (k + n))
      ≡ units_items which owner base ours theirs k (suc n)
  unfolding units_items
  units_snoc k zero =
      let e : k + 0 ≡ k = omega arith in
      rw e (sym (append-nil _))
  units_snoc k (suc n) =
      let e : k + suc n ≡ (k + 1) + n = omega arith in
      rw e (append_assoc (unit_items which k (unit_bytes base k) (unit_bytes ours k) (unit_bytes theirs k) (owned_unit owner k)) (units_items which owner base ours theirs (k + 1) n) (unit_items which ((k + 1) + n) (unit_bytes base ((k + 1) + n)) (unit_bytes ours ((k + 1) + n)) (unit_bytes theirs ((k + 1) + n)) (owned_unit owner ((k + 1) + n))) ∙ ap (λ (l : List (List ℕ)). unit_items which k (unit_bytes base k) (unit_bytes ours k) (unit_bytes theirs k) (owned_unit owner k) ++ l) (units_snoc (k + 1) n))

  pub units_more : (from k : ℕ) → from ≤ k → (b o t : List ℕ) (owned : Bool) → b ≡ unit_bytes base k → o ≡ unit_bytes ours k → t ≡ unit_bytes theirs k → owned ≡ owned_unit owner k
      → units_items which owner base ours theirs from (k - from) ++ unit_items which k b o t owned ≡ units_items which owner base ours theirs from (k + 1 - from)
  units_more from k h b o t owned e f g i =
      let m : k ≡ from + (k - from) = omega arith in
      let n : k + 1 - from ≡ suc (k - from) = omega arith in
      let j : unit_items which k b o t owned ≡ unit_items which k (unit_bytes base k) (unit_bytes ours k) (unit_bytes theirs k) (owned_unit owner k) = rw (e, f, g, i) in
      let l : unit_items which k (unit_bytes base k) (unit_bytes ours k) (unit_bytes theirs k) (owned_unit owner k)
      ≡ unit_items which (from + (k - from)) (unit_bytes base (from + (k - from))) (unit_bytes ours (from + (k - from))) (unit_bytes theirs (from + (k - from))) (owned_unit owner (from + (k - from)))
      = ap (λ (k : ℕ). unit_items which k (unit_bytes base k) (unit_bytes ours k) (unit_bytes theirs k) (owned_unit owner k)) m in
      ap (λ (l : List (List ℕ)). units_items which owner base ours theirs from (k - from) ++ l) (j ∙ l) ∙ (units_snoc from (k - from) ∙ ap (units_items which owner base ours theirs from) (sym n))

pub part_of_unit : (s : List ℕ) (k : ℕ) (c d : Cursor) (r : List ℕ) → c ≡ unit_at s k → d ≡ skip_unit k s c → r ≡ span s c.at d.at → r ≡ unit_bytes s k
unfolding unit_bytes
part_of_unit s k c d r e f g = g ∙ rw (f, e)

pub past : {k n : ℕ} → n ≤ k → (k ≡ n → ⊥) → suc n ≤ k
past h g = omega arith
