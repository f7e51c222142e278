-- Laws of digits, lines and of bytes put into a text. Assumes nothing.
use Rattle.std.specs.Prelude.{◌≢◌, Option, Some, None, MatchOption, unwrap_or, Bool, true, false, cond, leb}
use Rattle.std.specs.List.{AllWithin, HoldsAt}
use Rattle.std.proofs.lemmas.Iterator.{index_from_first}
use Rattle.std.specs.Simd.{first_chunks}
use Prim.Native.Nat.{ℕ, zero, suc, ◌+◌, ◌/◌, ◌%◌, ◌≤◌, ◌<◌}
use native.Mathlib.Numerals.{add-one}
use native.Mathlib.Omega.{arith}
use mathlib.Core.Path.{◌≡◌, refl, sym, ap, ◌∙◌}
use mathlib.Core.List.{List, [], ◌∷◌, ◌++◌, append_assoc, append-nil}
use borrow.Author.Tests.{le-leb, lt-leb, eq-eqb, ne_eqb}
use lib.ListN.{length, take, drop, set, get_or, length-append, take-append-drop}
use lib.Seq.{length-take-le, take_at, drop_at, take-suc, drop-drop, set_split}
use Rattle.std.proofs.lemmas.List.{at_drop_more, at_drop_all}
use Rattle.lines.specs.Lines.{digit, digits, pair, before, undigits, held, frame_of, line_length, Puts}

-- ---- a frame is read, some of it done

-- the bytes of pairs of digits
abbrev pub bytes_of : List (List ℕ) → Option (List ℕ)
bytes_of [] = Some []
bytes_of (p ∷ ps) = before (pair (get_or p 0 0) (get_or p 1 0)) (bytes_of ps)

undigits_pairs : (k : ℕ) (line : List ℕ) → length line ≡ k + k → undigits line ≡ bytes_of (first_chunks 2 k line)
unfolding undigits
undigits_pairs zero [] h = refl
undigits_pairs zero (a ∷ s) h = absurd (omega arith)
undigits_pairs (suc k) [] h = absurd (omega arith)
undigits_pairs (suc k) (a ∷ []) h = absurd (omega arith)
undigits_pairs (suc k) (a ∷ b ∷ s) h = ap (before (pair a b)) (undigits_pairs k s (omega arith))

undigits_odd : (k : ℕ) (line : List ℕ) → length line ≡ k + k + 1 → undigits line ≡ None
unfolding undigits
undigits_odd k [] h = absurd (omega arith)
undigits_odd k (a ∷ []) h = refl
undigits_odd zero (a ∷ b ∷ s) h = absurd (omega arith)
undigits_odd (suc k) (a ∷ b ∷ s) h = elim (pair a b) as (λ o. before o (undigits s) ≡ None) [ None ↦ refl | Some x ↦ rw (undigits_odd k s (omega arith)) ]

pub frame_long : (line : List ℕ) → 16384 < length line → [] ≡ frame_of line
unfolding frame_of
frame_long line h = rw (lt-leb (length line) 16384 h)

pub frame_odd : (line : List ℕ) → 0 < length line % 2 → [] ≡ frame_of line
unfolding frame_of
frame_odd line h = go (leb (length line) 16384)
  where
    go : (b : Bool) → [] ≡ cond b (held (undigits line)) []
    go true = rw (undigits_odd (length line / 2) line (omega arith))
    go false = refl

pub frame_even : (line : List ℕ) → length line ≤ 16384 → length line % 2 ≡ 0 → frame_of line ≡ held (bytes_of (first_chunks 2 (length line / 2) line))
unfolding frame_of
frame_even line h e = rw (le-leb (length line) 16384 h) (ap held (undigits_pairs (length line / 2) line (omega arith)))

-- a line whose whole pairs hold nothing, a digit left over or not
pub frame_none : (line : List ℕ) → length line ≤ 16384 → [] ≡ held (bytes_of (first_chunks 2 (length line / 2) line)) → [] ≡ frame_of line
frame_none line h e = go (length line % 2) refl
  where
    go : (r : ℕ) → length line % 2 ≡ r → [] ≡ frame_of line
    go zero p = e ∙ sym (frame_even line h p)
    go (suc r) p = frame_odd line (omega arith)

-- some bytes, and then what else there is
abbrev pub after : List ℕ → Option (List ℕ) → Option (List ℕ)
after done (Some s) = Some (done ++ s)
after done None = None

module _ (pairs : List (List ℕ)) (done : List ℕ) (n : ℕ) (h : bytes_of pairs ≡ after done (bytes_of (drop n pairs))) where
  pub frame_bad : n < length pairs → None ≡ pair (get_or (get_or pairs n []) 0 0) (get_or (get_or pairs n []) 1 0) → [] ≡ held (bytes_of pairs)
  frame_bad l e = rw (h, at_drop_more bytes_of pairs n [] l, ← e)

  pub frame_ends : length pairs ≤ n → done ≡ held (bytes_of pairs)
  frame_ends l = rw (h, at_drop_all bytes_of pairs n l) (sym (append-nil done))

-- ---- bytes put into a text

pub puts_none : (text : List ℕ) (at : ℕ) → Puts [] text text at at
puts_none text at = record { place = omega arith; is = sym (take-append-drop at text) }

module _ {x y text mid after : List ℕ} {at next end : ℕ} (P : Puts x text mid at next) (Q : Puts y mid after next end) where
  pub puts_then : at + length x ≤ length text → Puts (x ++ y) text after at end
  puts_then h =
      let p = P.place in
      let q = Q.place in
      let l : length (take at text ++ x) ≡ next = length-append (take at text) x ∙ ap (λ (k : ℕ). k + length x) (length-take-le at text (omega arith)) ∙ sym p in
      let m : mid ≡ (take at text ++ x) ++ drop next text = P.is ∙ sym (append_assoc (take at text) x (drop next text)) in
      let t : take next mid ≡ take at text ++ x = ap (take next) m ∙ take_at (take at text ++ x) (drop next text) next l in
      let d : drop next mid ≡ drop next text = ap (drop next) m ∙ drop_at (take at text ++ x) (drop next text) next l in
      let r : drop end mid ≡ drop end text = ap (λ (k : ℕ). drop k mid) q ∙ sym (drop-drop (length y) next mid) ∙ ap (drop (length y)) d ∙ drop-drop (length y) next text ∙ ap (λ (k : ℕ). drop k text) (sym q) in
      record {
        place = simp length-append (omega arith);
        is = Q.is ∙ rw (t, r) (append_assoc (take at text) x (y ++ drop end text) ∙ ap (λ (k : List ℕ). take at text ++ k) (sym (append_assoc x y (drop end text))));
      }

-- what stands before the place after them
pub puts_taken : {x text after : List ℕ} {at next : ℕ} → Puts x text after at next → at + length x ≤ length text → take next after ≡ take at text ++ x
puts_taken {x = x} {text = text} {after = after} {at = at} {next = next} P h =
    let p = P.place in
    let l : length (take at text ++ x) ≡ next = length-append (take at text) x ∙ ap (λ (k : ℕ). k + length x) (length-take-le at text (omega arith)) ∙ sym p in
    ap (take next) (P.is ∙ sym (append_assoc (take at text) x (drop next text))) ∙ take_at (take at text ++ x) (drop next text) next l

pub puts_byte : (text : List ℕ) (at b : ℕ) → at < length text → Puts (b ∷ []) text (set text at b) at (at + 1)
puts_byte text at b h = record { place = refl; is = rw (add-one at) (set_split text at b h) }

-- ---- digits

pub digits_append : (x y : List ℕ) → digits (x ++ y) ≡ digits x ++ digits y
unfolding digits
digits_append [] y = refl
digits_append (b ∷ x) y = ap (λ (t : List ℕ). digit (b / 16) ∷ digit (b % 16) ∷ t) (digits_append x y)

pub length_digits : (s : List ℕ) → length (digits s) ≡ length s + length s
unfolding digits
length_digits [] = refl
length_digits (b ∷ s) = let h = length_digits s in omega arith

pub digits_more : (s : List ℕ) (i : ℕ) → i < length s → digits (take (i + 1) s) ≡ digits (take i s) ++ digits (get_or s i 0 ∷ [])
digits_more s i h = rw (add-one i, take-suc s i 0 h) (digits_append (take i s) (get_or s i 0 ∷ []))

pub pair_place : (b : ℕ) {text after : List ℕ} {at next : ℕ} → Puts (digits (b ∷ [])) text after at next → next ≡ at + 2
unfolding digits
pair_place b P = P.place

pub digits_place : (s : List ℕ) {text after : List ℕ} {at next : ℕ} → Puts (digits s) text after at next → next ≡ at + (length s + length s)
digits_place s P = let l = length_digits s in let p = P.place in omega arith

-- one byte's digits more
pub puts_more : (s text mid after : List ℕ) (at i next end : ℕ) → i < length s → at + (length s + length s) ≤ length text
    → Puts (digits (take i s)) text mid at next → Puts (digits (get_or s i 0 ∷ [])) mid after next end → Puts (digits (take (i + 1) s)) text after at end
puts_more s text mid after at i next end h r P Q =
    let l : length (digits (take i s)) ≡ i + i = rw (length_digits (take i s), length-take-le i s (omega arith)) in
    rw (digits_more s i h) (puts_then P Q (omega arith))

pub puts_line : (s text mid : List ℕ) (at next : ℕ) → at + (length s + length s) < length text → length mid ≡ length text → Puts (digits s) text mid at next
    → Puts (digits s ++ (10 ∷ [])) text (set mid next 10) at (next + 1)
puts_line s text mid at next h e P =
    let l = length_digits s in
    let p = P.place in
    puts_then P (puts_byte mid next 10 (omega arith)) (omega arith)

-- ---- a line's end

-- where the first line feed stands, or that there is none
abbrev pub Feed : List ℕ → Option ℕ → Type 0
Feed s found = MatchOption found (AllWithin (λ b. b ≢ 10) s 0 (length s)) (λ i. (i < length s) × HoldsAt (λ b. b ≡ 10) s i × AllWithin (λ b. b ≢ 10) s 0 i)

pub line_stops : (s : List ℕ) (found : Option ℕ) → Feed s found → line_length s ≡ unwrap_or found (length s)
unfolding line_length
line_stops = index_from_first line_length (λ b. b ≡ 10) (λ b. b ≢ 10) refl (λ b s e. rw (eq-eqb b 10 e)) (λ b s n. rw (ne_eqb b 10 n, add-one (line_length s)))
