-- The lent buffers: their lengths, and what is left in them. Assumes nothing.
use Prim.Native.Nat.{ℕ, zero, suc, ◌-◌}
use native.Mathlib.Omega.{arith}
use mathlib.Core.Path.{◌≡◌, refl, sym, ap, ◌∙◌}
use mathlib.Core.List.{List, ◌++◌}
use mathlib.Core.Bool.{Bool, true, false, not, ◌&&◌, true≢false}
use lib.ListN.{length, drop}
use lib.Dec.{eqb}
use borrow.Author.Tests.{eq-eqb, ne_eqb, eqb-true, not-true, not-false}
use Rattle.spans.specs.Bytes.{zeros}
use Rattle.model.specs.Limits.{max_id, max_text, max_attendees}
use Rattle.model.specs.Maps.{when◌then◌else◌}
use Rattle.model.specs.Sizes.{id_bytes, text_bytes, organizer_bytes, attendee_bytes, fields_bytes, event_bytes}
use Rattle.clerks_model.specs.Units.{max_units}
use Rattle.clerks_model.specs.Answer.{Answer, two_clerks}
use Rattle.clerks_bytes.specs.Writes.{line_bytes, work_bytes, Front}
use Rattle.clerks_bytes.specs.Returned.{filled, returned, lengths_right, asked, Filled, Fills}
use Rattle.clerks_bytes.specs.declared.Told.{Told}

-- ---- lengths

pub line_is : line_bytes ≡ 940
unfolding event_bytes fields_bytes attendee_bytes organizer_bytes id_bytes text_bytes max_id max_text max_attendees max_units
line_is = refl

pub work_is : work_bytes ≡ 882
unfolding event_bytes fields_bytes attendee_bytes organizer_bytes id_bytes text_bytes max_id max_text max_attendees
work_is = refl

module _ (one two work : List ℕ) where
  pub wrong_one : (length one ≡ 940 → ⊥) → false ≡ lengths_right one two work
  unfolding lengths_right
  wrong_one h = rw (line_is, ne_eqb (length one) 940 h)

  pub wrong_two : length one ≡ 940 → (length two ≡ 940 → ⊥) → false ≡ lengths_right one two work
  unfolding lengths_right
  wrong_two g h = rw (line_is, eq-eqb (length one) 940 g, ne_eqb (length two) 940 h)

  pub right_so_far : length one ≡ 940 → length two ≡ 940 → eqb (length work) 882 ≡ lengths_right one two work
  unfolding lengths_right
  right_so_far g h = rw (line_is, work_is, eq-eqb (length one) 940 g, eq-eqb (length two) 940 h)

  pub refuses : (frame : List ℕ) {r : Bool} {t : Told} → r ≡ lengths_right one two work → not r ≡ true → t ≡ record { code = 1; one = 0; two = 0 }
      → record { code = t.code; one_length = t.one; two_length = t.two; one = one; two = two; work = work } ≡ asked frame one two work
  unfolding asked when◌then◌else◌
  refuses frame {r = r} e h k = rw (← e, not-true r h, k)

  module _ {r : Bool} (e : r ≡ lengths_right one two work) (h : not r ≡ false) where
    right : lengths_right one two work ≡ true
    right = sym e ∙ not-false r h

    pub lengths : (length one ≡ line_bytes) × (length two ≡ line_bytes) × (length work ≡ work_bytes)
    unfolding lengths_right
    lengths = go (eqb (length one) line_bytes) (eqb (length two) line_bytes) (eqb (length work) work_bytes) refl refl refl right
      where
        go : (a b c : Bool) → eqb (length one) line_bytes ≡ a → eqb (length two) line_bytes ≡ b → eqb (length work) work_bytes ≡ c → (a && b && c) ≡ true
            → (length one ≡ line_bytes) × (length two ≡ line_bytes) × (length work ≡ work_bytes)
        go true true true x y z h = (eqb-true (length one) line_bytes x, eqb-true (length two) line_bytes y, eqb-true (length work) work_bytes z)
        go true true false x y z h = absurd (true≢false (sym h))
        go true false c x y z h = absurd (true≢false (sym h))
        go false b c x y z h = absurd (true≢false (sym h))

-- ---- what is left in them

drop_zeros : (n m : ℕ) → drop n (zeros m) ≡ zeros (m - n)
drop_zeros zero m = let e : m ≡ m - 0 = omega arith in ap zeros e
drop_zeros (suc n) zero = let e : 0 ≡ 0 - suc n = omega arith in ap zeros e
drop_zeros (suc n) (suc m) = let e : m - n ≡ suc m - suc n = omega arith in drop_zeros n m ∙ ap zeros e

front_filled : (bytes out' : List ℕ) (r : ℕ) → Front bytes (zeros line_bytes) out' r → out' ≡ filled bytes
unfolding filled
front_filled bytes out' r F = F.is ∙ ap (λ (s : List ℕ). bytes ++ s) (ap (λ (n : ℕ). drop n (zeros line_bytes)) F.place ∙ drop_zeros (length bytes) line_bytes)

module _ (frame one two work : List ℕ) {r : Bool} (e : r ≡ lengths_right one two work) (h : not r ≡ false) {one₀ two₀ one' two' work' : List ℕ} (t : Told)
    (z : one₀ ≡ zeros (length one)) (y : two₀ ≡ zeros (length two)) (w : work' ≡ zeros work_bytes) (F : Fills frame one₀ two₀ one' two' t) where
  filled_right : (x : Answer) → Filled x (zeros line_bytes) (zeros line_bytes) one' two' t
      → record { code = t.code; one_length = t.one; two_length = t.two; one = one'; two = two'; work = zeros work_bytes } ≡ returned x
  unfolding returned
  filled_right (Answer.Refused n) F = rw (F.0, F.1, F.2)
  filled_right (Answer.Lines a b) F = rw (F.0, F.1.place, F.2.place, front_filled a one' t.one F.1, front_filled b two' t.two F.2)

  pub fills : record { code = t.code; one_length = t.one; two_length = t.two; one = one'; two = two'; work = work' } ≡ asked frame one two work
  unfolding asked when◌then◌else◌
  fills =
      let l = lengths one two work e h in
      let a : one₀ ≡ zeros line_bytes = z ∙ ap zeros l.0 in
      let b : two₀ ≡ zeros line_bytes = y ∙ ap zeros l.1 in
      let G : Fills frame (zeros line_bytes) (zeros line_bytes) one' two' t = rw (a, b) at F in
      rw (w, right one two work e h) (filled_right (two_clerks frame) G)
