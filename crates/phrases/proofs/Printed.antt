-- Laws of what may be printed: it is well-formed UTF-8; one after the other; plain bytes; the character at the front; writers. Assumes nothing.
use Rattle.std.specs.Prelude.{Option, Some, None}
use Prim.Native.Nat.{ℕ, zero, suc, ◌-◌, ◌/◌, ◌%◌, ◌≤◌, ◌<◌}
use native.Mathlib.Omega.{arith}
use native.Mathlib.Nat.{mod-lt}
use mathlib.Core.Path.{◌≡◌, refl, sym, ap, ◌∙◌}
use mathlib.Core.List.{List, [], ◌∷◌, ◌++◌, append_assoc, append-nil}
use mathlib.Core.Bool.{Bool, true, false, not, cond, ◌&&◌, false≢true, and-true, and-false}
use lib.Dec.{T, leb, eqb}
use lib.ListN.{length, get_or, take, drop, length-append}
use lib.Seq.{take_at, take_all, length-take-le}
use borrow.Author.Tests.{eqb-true, eq-eqb, ne_eqb, leb-true, not-true}
use Rattle.std.proofs.Common.{inl, inr}
use Rattle.std.proofs.lemmas.Bool.{cases_lt}
use Rattle.std.proofs.lemmas.Grind.{common_steps}
use Rattle.format.specs.Utf8.{following, after, chars, is_text}
use Rattle.format.specs.declared.Range.{Range}
use Rattle.comparison.specs.Bytes.{span}
use Rattle.io.specs.Digits.{hex_digit_ascii, last_digits}
use Rattle.pens.specs.declared.Pen.{Pen}
use Rattle.pens.specs.Writing.{Wrote}
use Rattle.phrases.specs.Shown.{width_of, is_character, is_hidden, is_visible, front_of, Shown, plain_byte, plain, Ready, Shows, Decimal}
use Rattle.phrases.specs.Shown.Shown.{no_more, line_feed, one_more}
use Rattle.phrases.proofs.Bytes.{and_left, and_right, ascii_visible, low_hidden, none_visible, width_1, glyph_plain}

to_T : (b : Bool) → b ≡ true → T b
to_T true e = tt
to_T false e = absurd (false≢true e)

from_T : (b : Bool) → T b → b ≡ true
from_T true t = refl
from_T false t = absurd t

-- one after the other
pub shown_append : {a b : List ℕ} → Shown a → Shown b → Shown (a ++ b)
shown_append no_more t = t
shown_append (line_feed s) t = line_feed (shown_append s t)
shown_append {b = b} (one_more c {s = s} v r) t = rw (append_assoc c s b) (one_more c v (shown_append r t))

-- what may be printed is well-formed UTF-8
on : (o : Option (List Range)) (a b : List ℕ) → ((vs : List Range) → chars vs a ≡ true → chars vs b ≡ true)
    → elim o [ None ↦ false | Some vs ↦ chars vs a ] ≡ true → elim o [ None ↦ false | Some vs ↦ chars vs b ] ≡ true
on None a b f h = h
on (Some vs) a b f h = f vs h

chars_append : (rs : List Range) (a b : List ℕ) → chars rs a ≡ true → chars [] b ≡ true → chars rs (a ++ b) ≡ true
unfolding chars
chars_append [] [] b e f = f
chars_append (r ∷ rs) [] b e f = absurd (false≢true e)
chars_append [] (x ∷ a) b e f = on (after [] x) a (a ++ b) (λ vs h. chars_append vs a b h f) e
chars_append (q ∷ qs) (x ∷ a) b e f = on (after (q ∷ qs) x) a (a ++ b) (λ vs h. chars_append vs a b h f) e

visible_text : (c : List ℕ) → T (is_visible c) → is_text c ≡ true
unfolding is_visible is_character
visible_text c v = and_left (is_text c) _ (and_left (is_character c) (not (is_hidden c)) (from_T (is_visible c) v))

pub shown_text : {s : List ℕ} → Shown s → is_text s ≡ true
unfolding is_text chars after following
shown_text no_more = refl
shown_text (line_feed s) = shown_text s
shown_text (one_more c {s = s} v r) = chars_append [] c s (visible_text c v) (shown_text r)

-- plain bytes
pub both : (a b : Bool) → T a → T b → T (a && b)
both true b s t = t
both false b s t = s

pub left : (a b : Bool) → T (a && b) → T a
left true b t = tt
left false b t = t

pub right : (a b : Bool) → T (a && b) → T b
right true b t = t
right false b t = absurd t

plain_one : (b : ℕ) {s : List ℕ} → plain_byte b ≡ true → Shown s → Shown (b ∷ s)
plain_one b {s} e rest = go (eqb b 0x0a) refl
  where
    go : (x : Bool) → eqb b 0x0a ≡ x → Shown (b ∷ s)
    go true h = rw (eqb-true b 0x0a h) (line_feed rest)
    go false h =
        let i : (leb 0x20 b && leb b 0x7e) ≡ true = rw h at e in
        let l : 0x20 ≤ b = leb-true 0x20 b (and_left (leb 0x20 b) (leb b 0x7e) i) in
        let m : b ≤ 0x7e = leb-true b 0x7e (and_right (leb 0x20 b) (leb b 0x7e) i) in
        one_more (b ∷ []) (to_T (is_visible (b ∷ [])) (ascii_visible b l (omega arith))) rest

pub plain_shown : (s : List ℕ) → T (plain s) → Shown s
plain_shown [] t = no_more
plain_shown (b ∷ s) t = plain_one b (from_T (plain_byte b) (left (plain_byte b) (plain s) t)) (plain_shown s (right (plain_byte b) (plain s) t))

pub byte_shown : (b : ℕ) → T (plain_byte b) → Shown (b ∷ [])
byte_shown b t = plain_one b (from_T (plain_byte b) t) no_more

pub plain_append : (a b : List ℕ) → T (plain a) → T (plain b) → T (plain (a ++ b))
plain_append [] b s t = t
plain_append (x ∷ a) b s t = both (plain_byte x) (plain (a ++ b)) (left (plain_byte x) (plain a) s) (plain_append a b (right (plain_byte x) (plain a) s) t)

pub plain_at : (s : List ℕ) (i : ℕ) → T (plain s) → i < length s → T (plain_byte (get_or s i 0))
plain_at [] i t h = absurd (omega arith)
plain_at (b ∷ s) zero t h = left (plain_byte b) (plain s) t
plain_at (b ∷ s) (suc i) t h = plain_at s i (right (plain_byte b) (plain s) t) (omega arith)

pub plain_take : (n : ℕ) (s : List ℕ) → T (plain s) → T (plain (take n s))
plain_take zero s t = tt
plain_take (suc n) [] t = tt
plain_take (suc n) (b ∷ s) t = both (plain_byte b) (plain (take n s)) (left (plain_byte b) (plain s) t) (plain_take n s (right (plain_byte b) (plain s) t))

pub plain_drop : (n : ℕ) (s : List ℕ) → T (plain s) → T (plain (drop n s))
plain_drop zero s t = t
plain_drop (suc n) [] t = tt
plain_drop (suc n) (b ∷ s) t = plain_drop n s (right (plain_byte b) (plain s) t)

pub plain_span : (s : List ℕ) (from to : ℕ) → T (plain s) → T (plain (span s from to))
plain_span s from to t = plain_take (to - from) (drop from s) (plain_drop from s t)

-- digits are plain
digits_plain : (b k n : ℕ) → 0 < b → b ≤ 16 → T (plain (last_digits b k n))
digits_plain b zero n g h = tt
digits_plain b (suc k) n g h =
    let m : n % b < b = mod-lt n g in
    let p : plain_byte (hex_digit_ascii (n % b)) ≡ true = glyph_plain (n % b) (omega arith) in
    plain_append (last_digits b k (n / b)) (hex_digit_ascii (n % b) ∷ []) (digits_plain b k (n / b) g h)
    (both (plain_byte (hex_digit_ascii (n % b))) true (to_T (plain_byte (hex_digit_ascii (n % b))) p) tt)

pub digits_shown : (b k n : ℕ) → 0 < b → b ≤ 16 → Shown (last_digits b k n)
digits_shown b k n g h = plain_shown (last_digits b k n) (digits_plain b k n g h)

-- the character at the front
no_first : (s : List ℕ) → get_or s 0 0 < 0x20 → is_visible (take 1 s) ≡ false
no_first [] h = not-true (is_visible []) none_visible
no_first (b ∷ s) h = not-true (is_visible (b ∷ [])) (low_hidden b h)

pub front_low : (s : List ℕ) → get_or s 0 0 < 0x20 → front_of s ≡ 0
unfolding front_of
front_low s h = rw (width_1 (get_or s 0 0) (omega arith), no_first s h)

ascii_taken : (s : List ℕ) → 0x20 ≤ get_or s 0 0 → get_or s 0 0 < 0x7f → is_visible (take 1 s) ≡ true
ascii_taken [] l h = absurd (omega arith)
ascii_taken (b ∷ s) l h = ascii_visible b l h

pub front_ascii : (s : List ℕ) → 0x20 ≤ get_or s 0 0 → get_or s 0 0 < 0x7f → front_of s ≡ 1
unfolding front_of
front_ascii s l h = rw (width_1 (get_or s 0 0) (omega arith), ascii_taken s l h)

-- the character that is taken, where it is whole
taken_visible : (s : List ℕ) (n : ℕ) → suc n ≡ width_of (get_or s 0 0) → suc n ≤ length s → is_visible (take (suc n) s) ≡ (is_text (take (suc n) s) && not (is_hidden (take (suc n) s)))
unfolding is_visible is_character
taken_visible [] n e h = absurd (omega arith)
taken_visible (b ∷ s) n e h =
    let l : length (take n s) ≡ n = length-take-le n s (omega arith) in
    let k : eqb (suc (length (take n s))) (width_of b) ≡ true = eq-eqb _ _ (ap suc l ∙ e) in
    rw (k, and-true (is_text (b ∷ take n s)))

cut : (v : Bool) (n : ℕ) → n ≡ 0 → cond v n 0 ≡ 0
cut true n e = e
cut false n e = refl

short_hidden : (s : List ℕ) (n : ℕ) → n ≡ width_of (get_or s 0 0) → length s < n → is_visible (take n s) ≡ false
unfolding is_visible is_character
short_hidden [] zero e h = absurd (omega arith)
short_hidden [] (suc n) e h = not-true (is_visible []) none_visible
short_hidden (b ∷ s) zero e h = absurd (omega arith)
short_hidden (b ∷ s) (suc n) e h =
    let l : take n s ≡ s = take_all n s (omega arith) in
    let k : eqb (suc (length (take n s))) (width_of b) ≡ false = rw (l, sym e) (ne_eqb (suc (length s)) (suc n) (λ d. omega arith)) in
    rw (k, and-false (is_text (b ∷ take n s)))

pub front_short : (s : List ℕ) → length s < width_of (get_or s 0 0) → front_of s ≡ 0
unfolding front_of
front_short s h = rw (short_hidden s (width_of (get_or s 0 0)) refl h)

pub front_taken : (s : List ℕ) → width_of (get_or s 0 0) ≤ length s
    → front_of s ≡ cond (is_text (take (width_of (get_or s 0 0)) s) && not (is_hidden (take (width_of (get_or s 0 0)) s))) (length (take (width_of (get_or s 0 0)) s)) 0
unfolding front_of
front_taken s h = go (width_of (get_or s 0 0)) refl h
  where
    go : (n : ℕ) → n ≡ width_of (get_or s 0 0) → n ≤ length s → cond (is_visible (take n s)) n 0 ≡ cond (is_text (take n s) && not (is_hidden (take n s))) (length (take n s)) 0
    go zero e l = cut (is_visible []) 0 refl ∙ sym (cut (is_text [] && not (is_hidden [])) 0 refl)
    go (suc n) e l = rw (length-take-le (suc n) s l, taken_visible s n e l)

-- what stands at the front, by how it begins
pub ruleset fronts = (front_low, front_ascii, front_short, front_taken)

-- a visible character
front_cases : (s : List ℕ) (n : ℕ) → 0 < n → n ≡ front_of s → (n ≡ width_of (get_or s 0 0)) × (is_visible (take n s) ≡ true)
unfolding front_of
front_cases s n h e = go (is_visible (take (width_of (get_or s 0 0)) s)) refl e
  where
    go : (v : Bool) → is_visible (take (width_of (get_or s 0 0)) s) ≡ v → n ≡ cond v (width_of (get_or s 0 0)) 0 → (n ≡ width_of (get_or s 0 0)) × (is_visible (take n s) ≡ true)
    go true f k = (k, rw k f)
    go false f k = absurd (omega arith)

pub front_shown : (s : List ℕ) (n : ℕ) → 0 < n → n ≡ front_of s → Shown (take n s)
front_shown s n h e = rw append-nil at (one_more (take n s) (to_T (is_visible (take n s)) (front_cases s n h e).1) no_more)

pub front_fits : (s : List ℕ) → front_of s ≤ length s
front_fits s = elim (cases_lt (length s) (width_of (get_or s 0 0))) [
  | inl h ↦ rw (front_short s h) (omega arith)
  | inr h ↦ rw (front_taken s h) (go (is_text (take (width_of (get_or s 0 0)) s) && not (is_hidden (take (width_of (get_or s 0 0)) s))))
]
  where
    go : (v : Bool) → cond v (length (take (width_of (get_or s 0 0)) s)) 0 ≤ length s
    go true = grind (arith, common_steps)
    go false = omega arith

-- writers
pub shows_none : (s : List ℕ) (p : Pen) → Shows s s p p
shows_none s p = record { shows = λ r. r }

pub shows_then : {a b c : List ℕ} {p q r : Pen} → Shows a b p q → Shows b c q r → Shows a c p r
shows_then S U = record { shows = λ r. U.shows (S.shows r) }

module _ {a b : List ℕ} {p q : Pen} {x : List ℕ} (W : Wrote a b p q x) (s : Shown x) where
  wrote_ready : Ready a p → q.ok ≡ true → (q.at ≤ length b) × Shown (take q.at b)
  wrote_ready R e =
      let r = R.ready (W.sticky e) in
      let l = r.0 in
      let S = W.wrote e l in
      let i = S.place in
      let f = S.fits in
      let w = W.long in
      let h : length (take p.at a ++ x) ≡ q.at = simp (length-append, length-take-le p.at a l) (omega arith) in
      let k : b ≡ (take p.at a ++ x) ++ drop q.at a = S.bytes ∙ sym (append_assoc (take p.at a) x (drop q.at a)) in
      let t : take q.at b ≡ take p.at a ++ x = ap (take q.at) k ∙ take_at (take p.at a ++ x) (drop q.at a) q.at h in
      (omega arith, rw t (shown_append r.1 s))

  pub shows_wrote : Shows a b p q
  shows_wrote = record { shows = λ R. record { ready = wrote_ready R } }

pub plain_shows : {a b x : List ℕ} {p q : Pen} → Wrote a b p q x → T (plain x) → Shows a b p q
plain_shows {x = x} W t = shows_wrote W (plain_shown x t)

pub shows_decimal : {a b : List ℕ} {p q : Pen} {n : ℕ} → Decimal a b p q n → Shows a b p q
shows_decimal {n = n} D = shows_wrote D.wrote (digits_shown 10 D.count n (omega arith) (omega arith))

-- a place at the start
pub ready_start : (s : List ℕ) → Ready s (record { at = 0; ok = true })
ready_start s = record { ready = λ e. (omega arith, no_more) }

-- what stands before a place that is not stopped
pub ready_part : {s x : List ℕ} {p : Pen} → Ready s p → p.ok ≡ true → x ≡ span s 0 p.at → Shown x
ready_part {p = p} R o e =
    let z : p.at - 0 ≡ p.at = omega arith in
    rw (e, z) (R.ready o).1
