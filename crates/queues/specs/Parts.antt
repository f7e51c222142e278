-- Encoded values where they stand in a buffer, and the parts of it that are handed on. Assumes nothing.
use Rattle.std.specs.Prelude.{ℕ, ◌+◌, ◌-◌, ◌≤◌, ◌≡◌, List, [], ◌++◌, leb, length, take, drop}
use Rattle.format.specs.Format.{Format}
use Rattle.model.specs.Maps.{when◌then◌else◌}

-- the value's bytes stand at a place
pub record StandsAt {A : Type 0} (f : Format A) (v : A) (b : List ℕ) (at : ℕ) : Type 0 where
  pub ok : f.Ok v
  pub rest : List ℕ
  pub is : drop at b ≡ f.enc v ++ rest

-- a part of the buffer that is the value's bytes, if a value of the format stands at the place
pub record PartOf {A : Type 0} (f : Format A) (b : List ℕ) (at : ℕ) (part : List ℕ) : Type 0 where
  pub is : (v : A) → StandsAt f v b at → part ≡ f.enc v

-- the bytes from one place to another, or none
abbrev pub part_of : List ℕ → ℕ → ℕ → List ℕ
part_of b from to = when (leb from to) then (when leb to (length b) then take (to - from) (drop from b) else []) else []

-- the first n bytes of a buffer are x
pub record Filled (x b : List ℕ) (n : ℕ) : Type 0 where
  pub count : n ≡ length x
  pub fits : n ≤ length b
  pub bytes : take n b ≡ x

-- where a value ends, if one stands at the place
pub record EndOf {A : Type 0} (f : Format A) (b : List ℕ) (at end : ℕ) : Type 0 where
  pub is : at ≤ length b → (v : A) → StandsAt f v b at → end ≡ at + length (f.enc v)
