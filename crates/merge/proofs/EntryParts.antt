-- The entries of an attendee list at the front of bytes: which bytes are an entry, its address, and the entry that is found.
-- Assumes nothing.
use Rattle.std.specs.Prelude.{Option, Some, None}
use Prim.Native.Nat.{ℕ, suc, ◌+◌, ◌-◌, ◌≤◌, ◌<◌}
use native.Mathlib.Omega.{arith}
use native.Mathlib.Numerals.{add-one}
use mathlib.Core.Path.{◌≡◌, refl, ap, ◌∙◌}
use mathlib.Core.List.{List, [], ◌∷◌, ◌++◌, append_assoc}
use mathlib.Core.Bool.{Bool, true, false, cond, ◌&&◌}
use lib.Dec.{eqb}
use lib.ListN.{length, drop}
use borrow.Author.Tests.{lt-ltb, lt-leb}
use Rattle.format.specs.Format.{below, list, concat_map, All}
use Rattle.format.proofs.FormatLaws.{below_law}
use Rattle.model.specs.Event.{Text, Attendee}
use Rattle.model.specs.Limits.{max_attendees}
use Rattle.model.specs.Maps.{same_text}
use Rattle.model.specs.Merge.{to_ascii_lowercase}
use Rattle.model.specs.Formats.{attendee_f}
use Rattle.model.proofs.FormatsLaws.{attendee_f_law}
use Rattle.frame.specs.Read.{start, value_at}
use Rattle.comparison.specs.Bytes.{same_folded}
use Rattle.attendees.specs.Entries.{entry_count, entry_at, entry_bytes, entry_enc, address_of, one_if, find_from, find_bytes}
use Rattle.attendees.proofs.Shown.{address_enc}
use Rattle.merge.proofs.Stood.{Stood, next_is, next_drop, span_is, counted}

-- the entry of a folded address and an occurrence
abbrev pub nth_in : Text → ℕ → List Attendee → Option Attendee
nth_in w n [] = None
nth_in w n (a ∷ l) = cond (same_text (to_ascii_lowercase a.address) w && eqb n 0) (Some a) (nth_in w (n - one_if (same_text (to_ascii_lowercase a.address) w)) l)

-- the entries from the i-th on are those of l
pub record From (s : List ℕ) (i : ℕ) (l : List Attendee) : Type 0 where
  pub ok : (entry_at s i).ok ≡ true
  pub fits : (entry_at s i).at ≤ length s
  pub tail : List ℕ
  pub is : drop (entry_at s i).at s ≡ concat_map attendee_f.enc l ++ tail
  pub fine : All attendee_f.Ok l

module _ {s : List ℕ} {i : ℕ} {a : Attendee} {l : List Attendee} (R : From s i (a ∷ l)) where
  abbrev pub stood_entry : Stood attendee_f s (entry_at s i) a
  stood_entry = record {
    ok = R.ok;
    fits = R.fits;
    tail = concat_map attendee_f.enc l ++ R.tail;
    is = R.is ∙ append_assoc (attendee_f.enc a) (concat_map attendee_f.enc l) R.tail;
    fine = R.fine.0;
  }

  pub from_next : From s (i + 1) l
  unfolding entry_at
  from_next =
      let n = counted attendee_f_law stood_entry in
      rw (add-one i) (record {
        ok = rw (next_is attendee_f_law stood_entry);
        fits = rw (next_is attendee_f_law stood_entry) (omega arith);
        tail = R.tail;
        is = rw (next_is attendee_f_law stood_entry) (next_drop attendee_f_law stood_entry);
        fine = R.fine.1;
      })

  pub entry_is : i < entry_count s → entry_bytes s i ≡ attendee_f.enc a
  unfolding entry_bytes
  entry_is h = rw (lt-leb (entry_count s) i h) (span_is attendee_f_law stood_entry)

  pub entry_address : i < entry_count s → address_of (entry_bytes s i) ≡ a.address
  entry_address h = ap address_of (entry_is h) ∙ address_enc a R.fine.0

module _ {s : List ℕ} {l : List Attendee} (S : Stood (list max_attendees attendee_f) s start l) where
  pub count_of : entry_count s ≡ length l
  unfolding entry_count value_at below list
  count_of =
      let h : length l < suc max_attendees = let k = S.fine.0 in omega arith in
      rw (S.is, lt-ltb (length l) (suc max_attendees) h)

  stood_count : Stood (below (suc max_attendees)) s start (length l)
  unfolding list below
  stood_count = record { ok = refl; fits = S.fits; tail = concat_map attendee_f.enc l ++ S.tail; is = S.is; fine = let k = S.fine.0 in omega arith }

  pub from_zero : From s 0 l
  unfolding entry_at list below stood_count
  from_zero =
      let n = counted (below_law (suc max_attendees)) stood_count in
      record {
        ok = rw (next_is (below_law (suc max_attendees)) stood_count);
        fits = rw (next_is (below_law (suc max_attendees)) stood_count) (omega arith);
        tail = S.tail;
        is = rw (next_is (below_law (suc max_attendees)) stood_count) (next_drop (below_law (suc max_attendees)) stood_count);
        fine = S.fine.1;
      }

-- what is found
pub find_from_lem : (s w : List ℕ) (l : List Attendee) (left i : ℕ) → From s i l → entry_count s ≡ i + length l
    → find_from s w left i (length l) ≡ entry_enc (nth_in (to_ascii_lowercase w) left l)
unfolding find_from same_folded
find_from_lem s w [] left i R e = refl
find_from_lem s w (a ∷ l) left i R e =
    let h : i < entry_count s = omega arith in
    let k : entry_count s ≡ (i + 1) + length l = omega arith in
    rw (entry_address R h, entry_is R h) (go (hit && eqb left 0) (find_from_lem s w l (left - one_if hit) (i + 1) (from_next R) k))
  where
    hit : Bool
    hit = same_text (to_ascii_lowercase a.address) (to_ascii_lowercase w)

    go : (b : Bool) → find_from s w (left - one_if hit) (i + 1) (length l) ≡ entry_enc (nth_in (to_ascii_lowercase w) (left - one_if hit) l)
        → cond b (attendee_f.enc a) (find_from s w (left - one_if hit) (i + 1) (length l)) ≡ entry_enc (cond b (Some a) (nth_in (to_ascii_lowercase w) (left - one_if hit) l))
    go true ih = refl
    go false ih = ih

pub find_is : {s : List ℕ} {l : List Attendee} → Stood (list max_attendees attendee_f) s start l → (w : List ℕ) (n : ℕ)
    → find_bytes s w n ≡ entry_enc (nth_in (to_ascii_lowercase w) n l)
unfolding find_bytes
find_is {s = s} {l = l} S w n = rw (count_of S) (find_from_lem s w l n 0 (from_zero S) (count_of S ∙ omega arith))
