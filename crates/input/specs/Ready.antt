-- Where the input is read, and what the functions promise. Assumes nothing.
use Rattle.std.specs.Prelude.{ℕ, ◌-◌, ◌≤◌, ◌≡◌, true, false, List, [], length, take, drop, Option, None, MatchOption, is_some}
use Rattle.input.specs.Input.{Taken, taken, Splits}
use Rattle.input.specs.declared.chunks.Input.{Input}
use Rattle.input.specs.declared.source.Lines.{Lines}

-- the bytes from `at` to `end`
abbrev pub between : ℕ → ℕ → List ℕ → List ℕ
between at end s = take (end - at) (drop at s)

-- the bytes that are left lie within the chunk, and those that are kept within the line
pub record Ready (chunk line : List ℕ) (p : Input) : Type 0 where
  pub left : p.at ≤ p.end
  pub within : p.end ≤ length chunk
  pub kept : p.have ≤ length line

-- a step in what is left of a chunk
pub record Takes (chunk line line' : List ℕ) (at end have : ℕ) (r : Input) : Type 0 where
  pub ready : Ready chunk line r
  pub going : r.ended ≡ false
  pub is : ◌≡◌ {A = Taken} (record { line = take r.have line'; whole = r.whole; left = between r.at r.end chunk }) (taken (length line) (take have line) (between at end chunk))

-- a call that began with `kept` and `left` has come so far
pub record Reads (kept left chunk' line' : List ℕ) (r : Input) : Type 0 where
  pub ready : Ready chunk' line' r
  pub splits : Splits (length line') kept left r.whole r.ended (take r.have line') (between r.at r.end chunk')

-- the bytes that are left of the chunk
abbrev pub left_of : Lines → List ℕ
left_of l = between l.at l.end l.chunk

-- a call hands out a line, or none, by what it has read; where the input had ended, none, and all stays as it was
pub record Hands (before after : Lines) (line' : List ℕ) (r : Option ℕ) : Type 0 where
  pub line : List ℕ
  pub is : MatchOption r (Unit {0}) (λ have. (have ≤ length line') × (line ≡ take have line'))
  pub over : before.ended ≡ true → (r ≡ None) × (after ≡ before)
  pub splits : before.ended ≡ false → Splits (length line') [] (left_of before) (is_some r) after.ended line (left_of after)
