-- What is left behind a value in its width. Assumes nothing.
use Rattle.std.specs.Prelude.{ℕ, List, Option, Some, None, cond, length, take, drop, leb}
use Rattle.regions.specs.Tests.{zeros_left}

-- where `behind` says what is left behind the value at the front: w bytes further, if zeros are left of them
abbrev pub in_width : ℕ → (List ℕ → Option (List ℕ)) → List ℕ → Option (List ℕ)
in_width w behind s = cond (leb w (length s)) (cond (zeros_left (behind (take w s))) (Some (drop w s)) None) None
