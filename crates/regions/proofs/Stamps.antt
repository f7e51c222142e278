-- What is left behind a timestamp. Assumes nothing.
use Rattle.std.specs.Prelude.{ℕ, ◌≡◌, List, Some, None, true, false}
use Rattle.std.specs.Int.{w64}
use lib.IntN.{ℤ}
use mir.Val.{to_z, of_z, SFits}
use mir.Facts.{to_z-of_z}
use Rattle.format.specs.Format.{number, stamp, is_time}
use Rattle.reader.specs.Left.{after}

pub stamp_none : (s : List ℕ) → (number 8).dec s ≡ None → after stamp s ≡ None
unfolding after stamp number
stamp_none s e = rw e

-- a time is handed on by its bits
module _ (s t : List ℕ) (n : ℕ) {z : ℤ} (e : (number 8).dec s ≡ Some (n, t)) (q : z ≡ to_z w64 n) (f : SFits w64 z) where
  pub stamp_is : is_time (to_z w64 (of_z w64 z)) ≡ true → after stamp s ≡ Some t
  unfolding after stamp number
  stamp_is h = let k = rw (to_z-of_z f) at h in rw (e, ← q, k)

  pub stamp_is_not : is_time (to_z w64 (of_z w64 z)) ≡ false → after stamp s ≡ None
  unfolding after stamp number
  stamp_is_not h = let k = rw (to_z-of_z f) at h in rw (e, ← q, k)
