-- A line holds exactly the frame whose digits it is, and a line that was cut holds what the whole holds. Assumes nothing.
use Rattle.std.specs.Prelude.{Option, Some, None, option_and_then, option_map}
use Rattle.std.proofs.lemmas.Bool.Decides.{nat_tests}
use Prim.Native.Nat.{ℕ, ◌+◌, ◌*◌, ◌/◌, ◌%◌, ◌≤◌, ◌<◌}
use native.Mathlib.Omega.{arith}
use mathlib.Core.Path.{◌≡◌, refl, sym, ap, ◌∙◌}
use mathlib.Core.Bool.{Bool, true, false, cond}
use mathlib.Core.Logic.{◌↔◌}
use mathlib.Core.List.{List, [], ◌∷◌}
use borrow.Author.Tests.{le-leb, leb-true, leb-false}
use lib.Dec.{leb}
use lib.ListN.{length, take}
use lib.Seq.{take_all, length-take-le}
use Rattle.lines.specs.Lines.{digit, digits, value, pair, before, undigits, held, frame_of}
use Rattle.lines.proofs.Laws.{frame_long, length_digits}

-- ---- what is written is read back

value_digit : (n : ℕ) → n < 16 → value (digit n) ≡ Some n
unfolding value digit
value_digit n h = grind (arith, nat_tests)

-- every element is a byte
abbrev pub Bytes : List ℕ → Type 0
Bytes [] = Unit {0}
Bytes (b ∷ s) = (b < 256) × Bytes s

pair_digits : (b : ℕ) → b < 256 → pair (digit (b / 16)) (digit (b % 16)) ≡ Some b
unfolding pair
pair_digits b h =
    let high : b / 16 < 16 = omega arith in
    let low : b % 16 < 16 = omega arith in
    let e : b / 16 * 16 + b % 16 ≡ b = omega arith in
    rw (value_digit (b / 16) high, value_digit (b % 16) low) (ap Some e)

undigits_digits : (s : List ℕ) → Bytes s → undigits (digits s) ≡ Some s
unfolding undigits digits
undigits_digits [] h = refl
undigits_digits (b ∷ s) h = rw (pair_digits b h.0, undigits_digits s h.1)

pub read_back : (s : List ℕ) → Bytes s → length s ≤ 8192 → frame_of (digits s) ≡ s
unfolding frame_of
read_back s h l =
    let k = length_digits s in
    rw (le-leb (length (digits s)) 16384 (omega arith), undigits_digits s h)

-- ---- what is read is what would be written

digit_value : (c n : ℕ) → value c ≡ Some n → (digit n ≡ c) × (n < 16)
unfolding value digit
digit_value c n e = (grind (arith, nat_tests), grind (arith, nat_tests))

-- what two digits stand for
record Reads (a b x : ℕ) : Type 0 where
  high : digit (x / 16) ≡ a
  low : digit (x % 16) ≡ b
  small : x < 256

pair_reads : (a b x : ℕ) → pair a b ≡ Some x → Reads a b x
unfolding pair
pair_reads a b x e = go (value a) refl (value b) refl e
  where
    go : (p : Option ℕ) → value a ≡ p → (q : Option ℕ) → value b ≡ q → option_and_then (λ high. option_map (λ low. high * 16 + low) q) p ≡ Some x → Reads a b x
    go (Some high) f (Some low) g e =
        let h = digit_value a high f in
        let l = digit_value b low g in
        let i : high * 16 + low ≡ x = cc in
        let m : x / 16 ≡ high = omega arith in
        let n : x % 16 ≡ low = omega arith in
        record { high = rw m h.0; low = rw n l.0; small = omega arith }
    go (Some high) f None g e = cc
    go None f q g e = cc

undigits_reads : (line s : List ℕ) → undigits line ≡ Some s → Bytes s × (line ≡ digits s)
unfolding undigits digits
undigits_reads [] s e =
    let i : [] ≡ s = cc in
    rw (← i) (tt, refl)
undigits_reads (a ∷ []) s e = cc
undigits_reads (a ∷ b ∷ line) s e = go (λ t. undigits_reads line t) (pair a b) refl (undigits line) refl e
  where
    go : ((t : List ℕ) → undigits line ≡ Some t → Bytes t × (line ≡ digits t)) → (p : Option ℕ) → pair a b ≡ p → (t : Option (List ℕ)) → undigits line ≡ t → before p t ≡ Some s → Bytes s × (a ∷ b ∷ line ≡ digits s)
    go rest None f t g e = cc
    go rest (Some x) f None g e = cc
    go rest (Some x) f (Some t) g e =
        let r = pair_reads a b x f in
        let i = rest t g in
        let j : x ∷ t ≡ s = cc in
        rw (← j) ((r.small, i.0), rw (r.high, r.low) (ap (λ (l : List ℕ). a ∷ b ∷ l) i.1))

-- a line holds a frame exactly where it is that frame's digits
held_reads : (line s : List ℕ) → (s ≡ [] → ⊥) → frame_of line ≡ s → Bytes s × (length s ≤ 8192) × (line ≡ digits s)
unfolding frame_of
held_reads line s n = go (leb (length line) 16384) refl (undigits line) refl
  where
    go : (b : Bool) → leb (length line) 16384 ≡ b → (o : Option (List ℕ)) → undigits line ≡ o → cond b (held o) [] ≡ s → Bytes s × (length s ≤ 8192) × (line ≡ digits s)
    go false f o g e = absurd (n (sym e))
    go true f None g e = absurd (n (sym e))
    go true f (Some t) g e =
        let r = undigits_reads line t g in
        let l = leb-true (length line) 16384 f in
        let k : length line ≡ length t + length t = ap length r.1 ∙ length_digits t in
        rw (← e) (r.0, omega arith, r.1)

pub frames_exact : (line s : List ℕ) → (s ≡ [] → ⊥) → (frame_of line ≡ s) ↔ (Bytes s × (length s ≤ 8192) × (line ≡ digits s))
frames_exact line s n = (held_reads line s n, λ h. rw h.2 (read_back s h.0 h.1))

-- of a line that is too long, one byte more than the most tells
pub cut_same : (line : List ℕ) → frame_of (take 16385 line) ≡ frame_of line
cut_same line = go (leb (length line) 16385) refl
  where
    go : (b : Bool) → leb (length line) 16385 ≡ b → frame_of (take 16385 line) ≡ frame_of line
    go true e = ap frame_of (take_all 16385 line (leb-true (length line) 16385 e))
    go false e =
        let h = leb-false (length line) 16385 e in
        let l = length-take-le 16385 line (omega arith) in
        sym (frame_long (take 16385 line) (omega arith)) ∙ frame_long line (omega arith)
