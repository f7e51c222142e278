-- Laws of the answer's text: each law's premises are what the callees ensure. Assumes nothing.
use Prim.Native.Nat.{ℕ, ◌+◌, ◌/◌, ◌%◌, ◌≤◌, ◌<◌}
use native.Mathlib.Omega.{arith}
use mathlib.Core.Path.{◌≡◌, refl, ap, ◌∙◌}
use mathlib.Core.Bool.{true, false}
use mathlib.Core.List.{List, [], ◌∷◌}
use lib.ListN.{length, take, set, length-append}
use lib.Seq.{take_at}
use lib.Dec.{eqb}
use borrow.Author.Tests.{lt-ltb, le-ltb, eq-eqb, ne_eqb}
use Rattle.model.specs.Maps.{when◌then◌else◌}
use Rattle.lines.specs.Lines.{digits, Puts}
use Rattle.lines.proofs.Laws.{length_digits, puts_then, puts_taken}
use Rattle.clerks_model.specs.Answer.{Answer, two_clerks}
use Rattle.clerks_model.proofs.Refusals.{Coded, coded}
use Rattle.clerks_bytes.specs.Writes.{line_bytes, work_bytes}
use Rattle.clerks_bytes.specs.Returned.{Returned, filled, returned, lengths_right, asked}
use Rattle.clerks_bytes.specs.declared.Told.{Told}
use Rattle.clerks_lines.specs.Text.{line, decimal, text_of, told_text, text_bytes, Starts}

-- ---- a number

pub one_digit : (text : List ℕ) (n : ℕ) → n < 10 → 2 ≤ length text → Starts (line (decimal n)) (set (set text 0 (48 + n)) 1 10) 2
one_digit [] n h k = absurd (omega arith)
one_digit (a ∷ []) n h k = absurd (omega arith)
one_digit (a ∷ b ∷ text) n h k = record { fits = omega arith; says = rw (lt-ltb n 10 h) }

pub two_digits : (text : List ℕ) (n : ℕ) → 10 ≤ n → 3 ≤ length text → Starts (line (decimal n)) (set (set (set text 0 (48 + n / 10)) 1 (48 + n % 10)) 2 10) 3
two_digits [] n h k = absurd (omega arith)
two_digits (a ∷ []) n h k = absurd (omega arith)
two_digits (a ∷ b ∷ []) n h k = absurd (omega arith)
two_digits (a ∷ b ∷ c ∷ text) n h k = record { fits = omega arith; says = rw (le-ltb n 10 h) }

-- ---- the lines

line_long : (s : List ℕ) → length (line (digits s)) ≡ length s + length s + 1
line_long s = length-append (digits s) (10 ∷ []) ∙ ap (λ (n : ℕ). n + 1) (length_digits s)

pub line_place : (s : List ℕ) {text text' : List ℕ} {at next : ℕ} → Puts (line (digits s)) text text' at next → next ≡ at + (length s + length s + 1)
line_place s P = let h = line_long s in let p = P.place in omega arith

module _ (code : ℕ) (one two : List ℕ) {text' : List ℕ} {r : ℕ} where
  pub tells_number : eqb code 0 ≡ false → Starts (line (decimal code)) text' r → Starts (told_text code one two) text' r
  unfolding told_text
  tells_number h S = rw h S

  pub tells_lines : {text mid : List ℕ} {at : ℕ} → eqb code 0 ≡ true → length one ≤ line_bytes → length two ≤ line_bytes → text_bytes ≤ length text → length text' ≡ length text
      → Puts (line (digits one)) text mid 0 at → Puts (line (digits two)) mid text' at r → Starts (told_text code one two) text' r
  unfolding told_text
  tells_lines e a b room same P Q =
      let h = line_long one in
      let k = line_long two in
      let p = P.place in
      let q = Q.place in
      let l = length-append (line (digits one)) (line (digits two)) in
      rw e (record { fits = omega arith; says = puts_taken (puts_then P Q (omega arith)) (omega arith) })

-- ---- the answer to a frame

-- what is told of an answer
pub record Tells (a : Answer) (r : Returned) : Type 0 where
  pub code : r.code < 100
  pub one : r.one_length ≤ length r.one
  pub two : r.two_length ≤ length r.two
  pub text : told_text r.code (take r.one_length r.one) (take r.two_length r.two) ≡ text_of a

returned_tells : (a : Answer) → Coded a → Tells a (returned a)
unfolding returned filled told_text text_of
returned_tells (Answer.Refused n) h = record {
  code = h.1;
  one = omega arith;
  two = omega arith;
  text = rw (ne_eqb n 0 (omega arith));
}
returned_tells (Answer.Lines a b) h = record {
  code = omega arith;
  one = simp length-append (omega arith);
  two = simp length-append (omega arith);
  text = rw (take_at a _ (length a) refl, take_at b _ (length b) refl);
}

asked_is : (frame one two work : List ℕ) → length one ≡ line_bytes → length two ≡ line_bytes → length work ≡ work_bytes → asked frame one two work ≡ returned (two_clerks frame)
unfolding asked lengths_right when◌then◌else◌
asked_is frame one two work a b c = rw (eq-eqb (length one) line_bytes a, eq-eqb (length two) line_bytes b, eq-eqb (length work) work_bytes c)

module _ (frame one two work one' two' work' : List ℕ) (r : Told)
    (e : ◌≡◌ {A = Returned} (record { code = r.code; one_length = r.one; two_length = r.two; one = one'; two = two'; work = work' }) (asked frame one two work))
    (a : length one ≡ line_bytes) (b : length two ≡ line_bytes) (c : length work ≡ work_bytes) where
  pub tells : Tells (two_clerks frame) (record { code = r.code; one_length = r.one; two_length = r.two; one = one'; two = two'; work = work' })
  tells = rw (e, asked_is frame one two work a b c) (returned_tells (two_clerks frame) (coded frame))

  -- the text of what is told is the answer's
  pub answers : {frame' text : List ℕ} {n : ℕ} → frame ≡ frame' → Starts (told_text r.code (take r.one one') (take r.two two')) text n → Starts (text_of (two_clerks frame')) text n
  answers f S = rw (tells.text, f) at S
