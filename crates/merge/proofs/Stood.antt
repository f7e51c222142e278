-- A value of a format stands at a place: what is skipped there, and which bytes those are. Assumes nothing.
use Rattle.std.specs.Prelude.{Some}
use Prim.Native.Nat.{ℕ, ◌+◌, ◌-◌, ◌≤◌}
use native.Mathlib.Omega.{arith}
use mathlib.Core.Path.{◌≡◌, refl, sym, ap, ◌∙◌}
use mathlib.Core.List.{List, [], ◌++◌, append_assoc, append-nil}
use mathlib.Core.Bool.{true}
use lib.ListN.{length, drop, length-append, length-drop}
use lib.Seq.{take_at, drop_at, drop-drop}
use Rattle.format.specs.Format.{Format, Lawful, ◌⊗◌, via}
use Rattle.frame.specs.Read.{skips, start}
use Rattle.frame.specs.declared.Cursor.{Cursor}
use Rattle.comparison.specs.Bytes.{span}
use Rattle.merge.specs.Given.{Begins}

pub record Stood {A : Type 0} (f : Format A) (s : List ℕ) (c : Cursor) (v : A) : Type 0 where
  pub ok : c.ok ≡ true
  pub fits : c.at ≤ length s
  pub tail : List ℕ
  pub is : drop c.at s ≡ f.enc v ++ tail
  pub fine : f.Ok v

pub stood_start : {A : Type 0} {f : Format A} {s : List ℕ} {v : A} → Begins f s v → Stood f s start v
stood_start B = record { ok = refl; fits = omega arith; tail = B.rest; is = B.bytes; fine = B.fits }

-- the bytes of a value alone
pub stood_alone : {A : Type 0} {f : Format A} {s : List ℕ} {v : A} → f.Ok v → s ≡ f.enc v → Stood f s start v
stood_alone h e = record { ok = refl; fits = omega arith; tail = []; is = e ∙ sym (append-nil _); fine = h }

module _ {A : Type 0} {f : Format A} (F : Lawful f) {s : List ℕ} {c : Cursor} {v : A} (S : Stood f s c v) where
  pub counted : length s ≡ c.at + (length (f.enc v) + length S.tail)
  counted =
      let l : length (drop c.at s) ≡ length s - c.at = length-drop c.at s in
      let m : length (drop c.at s) ≡ length (f.enc v) + length S.tail = ap length S.is ∙ length-append (f.enc v) S.tail in
      let h = S.fits in
      omega arith

  pub next_is : skips f s c ≡ record { at = c.at + length (f.enc v); ok = true }
  unfolding skips
  next_is =
      let d : f.dec (drop c.at s) ≡ Some (v, S.tail) = ap f.dec S.is ∙ F.writes v S.fine S.tail in
      let n = counted in
      let k : length s - length S.tail ≡ c.at + length (f.enc v) = omega arith in
      rw (S.ok, d, k)

  pub next_drop : drop (c.at + length (f.enc v)) s ≡ S.tail
  next_drop = sym (drop-drop (length (f.enc v)) c.at s) ∙ (ap (drop (length (f.enc v))) S.is ∙ drop_at (f.enc v) S.tail (length (f.enc v)) refl)

  pub span_is : span s c.at (skips f s c).at ≡ f.enc v
  span_is =
      let k : c.at + length (f.enc v) - c.at ≡ length (f.enc v) = omega arith in
      rw (next_is, k, S.is) (take_at (f.enc v) S.tail (length (f.enc v)) refl)

-- the first field and the second
module _ {A B : Type 0} (f : Format A) (g : Format B) (F : Lawful f) {s : List ℕ} {c : Cursor} {v : A × B} (S : Stood (f ⊗ g) s c v) where
  pub stood_first : Stood f s c v.0
  unfolding ◌⊗◌
  stood_first = record { ok = S.ok; fits = S.fits; tail = g.enc v.1 ++ S.tail; is = S.is ∙ append_assoc (f.enc v.0) (g.enc v.1) S.tail; fine = S.fine.0 }

  pub stood_second : Stood g s (skips f s c) v.1
  unfolding ◌⊗◌ stood_first
  stood_second =
      let n = counted F stood_first in
      record {
        ok = rw (next_is F stood_first);
        fits = rw (next_is F stood_first) (omega arith);
        tail = S.tail;
        is = rw (next_is F stood_first) (next_drop F stood_first);
        fine = S.fine.1;
      }

pub stood_via : {A B : Type 0} (to : A → B) (from : B → A) (f : Format A) {s : List ℕ} {c : Cursor} {v : B} → Stood (via to from f) s c v → Stood f s c (from v)
unfolding via
stood_via to from f S = record { ok = S.ok; fits = S.fits; tail = S.tail; is = S.is; fine = S.fine }
