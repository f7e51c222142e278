-- Facts of single bytes, each proved by one computation over all of them. Assumes nothing.
use Prim.Native.Nat.{ℕ, zero, suc, ◌≤◌, ◌<◌}
use native.Mathlib.Omega.{arith}
use mathlib.Core.Path.{◌≡◌, refl, ◌∙◌}
use mathlib.Core.List.{[], ◌∷◌}
use mathlib.Core.Bool.{Bool, true, false, not, cond, ◌&&◌, ◌||◌, false≢true}
use lib.Dec.{leb, ltb, eqb}
use borrow.Author.Tests.{le-leb, lt-ltb, eqb-true, eqb-false}
use Rattle.format.specs.Utf8.{following, after, chars, is_text}
use Rattle.io.specs.Digits.{hex_digit_ascii}
use Rattle.phrases.specs.Shown.{width_of, is_character, is_hidden, is_visible, plain_byte}

-- a test passes from 0 up to below n
abbrev every_below : (ℕ → Bool) → ℕ → Bool
every_below f zero = true
every_below f (suc n) = f n && every_below f n

pub and_left : (a b : Bool) → (a && b) ≡ true → a ≡ true
and_left true b e = refl
and_left false b e = e

pub and_right : (a b : Bool) → (a && b) ≡ true → b ≡ true
and_right true b e = e
and_right false b e = absurd (false≢true e)

at_each : (f : ℕ → Bool) (n : ℕ) → every_below f n ≡ true → (b : ℕ) → b < n → f b ≡ true
at_each f zero t b h = absurd (omega arith)
at_each f (suc n) t b h = go (eqb b n) refl (λ l. at_each f n (and_right (f n) (every_below f n) t) b l)
  where
    go : (e : Bool) → eqb b n ≡ e → (b < n → f b ≡ true) → f b ≡ true
    go true e k = rw (eqb-true b n e) (and_left (f n) (every_below f n) t)
    go false e k = let d : b ≡ n → ⊥ = eqb-false b n e in k (omega arith)

-- a test that passes where another does
abbrev unless : Bool → Bool → Bool
unless a b = not a || b

unless_true : (a b : Bool) → unless a b ≡ true → a ≡ true → b ≡ true
unless_true true b e t = e
unless_true false b e t = absurd (false≢true t)

-- the first bytes of characters
abbrev pub widths : ℕ → ℕ
widths b = cond (ltb b 0x80) 1 (cond (ltb b 0xc2) 0 (cond (ltb b 0xe0) 2 (cond (ltb b 0xf0) 3 (cond (ltb b 0xf5) 4 0))))

widths_right : every_below (λ b. eqb (width_of b) (widths b)) 256 ≡ true
unfolding width_of following
widths_right = refl

pub width_is : (b : ℕ) → b < 256 → width_of b ≡ widths b
width_is b h = eqb-true (width_of b) (widths b) (at_each (λ b. eqb (width_of b) (widths b)) 256 widths_right b h)

pub width_1 : (b : ℕ) → b < 0x80 → width_of b ≡ 1
width_1 b h = width_is b (omega arith) ∙ simp (lt-ltb b 0x80 h)

-- printable ASCII, and what stands below it
asciis_right : every_below (λ b. unless (leb 0x20 b) (is_visible (b ∷ []))) 0x7f ≡ true
unfolding is_visible is_character is_hidden width_of is_text chars after following
asciis_right = refl

pub ascii_visible : (b : ℕ) → 0x20 ≤ b → b < 0x7f → is_visible (b ∷ []) ≡ true
ascii_visible b l h =
    unless_true (leb 0x20 b) (is_visible (b ∷ [])) (at_each (λ b. unless (leb 0x20 b) (is_visible (b ∷ []))) 0x7f asciis_right b h) (le-leb 0x20 b l)

lows_right : every_below (λ b. not (is_visible (b ∷ []))) 0x20 ≡ true
unfolding is_visible is_character is_hidden width_of is_text chars after following
lows_right = refl

pub none_visible : not (is_visible []) ≡ true
unfolding is_visible is_character is_hidden width_of is_text chars after following
none_visible = refl

pub low_hidden : (b : ℕ) → b < 0x20 → not (is_visible (b ∷ [])) ≡ true
low_hidden b h = at_each (λ b. not (is_visible (b ∷ []))) 0x20 lows_right b h

-- digits
glyphs_right : every_below (λ d. plain_byte (hex_digit_ascii d)) 16 ≡ true
glyphs_right = refl

pub glyph_plain : (d : ℕ) → d < 16 → plain_byte (hex_digit_ascii d) ≡ true
glyph_plain d h = at_each (λ d. plain_byte (hex_digit_ascii d)) 16 glyphs_right d h
