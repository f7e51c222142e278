-- A big-endian number, a byte at a time.
use Rattle.std.proofs.Common.{◌≡◌, ◌≤◌, ◌<◌, ℕ, zero, suc, ◌+◌, ◌-◌, ◌*◌, ◌^◌, List, [], ◌∷◌, refl, arith, length, drop, get_or, add-one, ap, ◌∙◌}
use Rattle.std.specs.Prelude.{Some, None, cond, Bool, true, false, ltb}
use borrow.Author.Tests.{lt-ltb}
use native.Mathlib.Nat.{pow-le-pow_right, pow-suc}
use lib.Seq.{drop-cons}
use Rattle.format.specs.Format.{digits}

-- fewer bytes than the number has
pub digits_short : (w v : ℕ) (s : List ℕ) → length s < w → digits w v s ≡ None
digits_short zero v s h = absurd (omega arith)
digits_short (suc w) v [] h = refl
digits_short (suc w) v (b ∷ s) h = go (ltb b 256) (digits_short w (v * 256 + b) s (omega arith))
  where
    go : (x : Bool) → digits w (v * 256 + b) s ≡ None → cond x (digits w (v * 256 + b) s) None ≡ None
    go true e = e
    go false e = refl

-- one byte more
pub digits_step : (w i v b : ℕ) (s : List ℕ) → i < w → w ≤ length s → b ≡ get_or s i 0 → b < 256 → digits (w - i) v (drop i s) ≡ digits (w - (i + 1)) (v * 256 + b) (drop (i + 1) s)
digits_step w i v b s h l e k =
    let n : w - i ≡ suc (w - (i + 1)) = omega arith in
    rw (n, add-one i, drop-cons s i 0 (omega arith), ← e, lt-ltb b 256 k)

-- v holds i bytes, and one more fits 64 bits
pub room_64 : (v i b : ℕ) → v < 256 ^ i → i < 8 → b < 256 → v * 256 + b < 2 ^ 64
room_64 v i b h k l =
    let p : 256 ^ i ≤ 256 ^ 7 = pow-le-pow_right {n = 256} (omega arith) {i = i} {j = 7} (omega arith) in
    omega arith

pub more_bytes : (v i b : ℕ) → v < 256 ^ i → b < 256 → v * 256 + b < 256 ^ (i + 1)
more_bytes v i b h k =
    let p : 256 ^ (i + 1) ≡ 256 ^ i * 256 = ap (λ (n : ℕ). 256 ^ n) (add-one i) ∙ pow-suc 256 i in
    omega arith

pub digits_end : (w i v : ℕ) (s : List ℕ) → i ≡ w → digits (w - i) v (drop i s) ≡ Some (v, drop w s)
digits_end w i v s e =
    let n : w - i ≡ 0 = omega arith in
    rw (n, e)
