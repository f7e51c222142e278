-- The answer to a frame as text, and what the functions promise. Assumes nothing.
use Rattle.std.specs.Prelude.{ℕ, ◌+◌, ◌*◌, ◌/◌, ◌%◌, ◌≤◌, ◌≡◌, cond, List, [], ◌∷◌, ◌++◌, eqb, ltb, length, take}
use Rattle.lines.specs.Lines.{digits}
use Rattle.clerks_model.specs.Answer.{Answer}
use Rattle.clerks_bytes.specs.Writes.{line_bytes}

-- text as a line
abbrev pub line : List ℕ → List ℕ
line text = text ++ (10 ∷ [])

-- a number below 100 in decimal: its digits are 48 and so much more
abbrev pub decimal : ℕ → List ℕ
decimal n = cond (ltb n 10) ((48 + n) ∷ []) ((48 + n / 10) ∷ (48 + n % 10) ∷ [])

-- a line in hexadecimal for each order, or only the refusal's number
unfoldable pub text_of : Answer → List ℕ
text_of (Answer.Refused n) = line (decimal n)
text_of (Answer.Lines one two) = line (digits one) ++ line (digits two)

-- by what `two_clerks` returned
unfoldable pub told_text : ℕ → (one two : List ℕ) → List ℕ
told_text code one two = cond (eqb code 0) (line (digits one) ++ line (digits two)) (line (decimal code))

-- the most bytes that are printed: two lines, two digits a byte and a line feed each
abbrev pub text_bytes : ℕ
text_bytes = 2 * (line_bytes + line_bytes + 1)

-- the text starts with these bytes
pub record Starts (bytes text' : List ℕ) (r : ℕ) : Type 0 where
  pub fits : r ≤ length text'
  pub says : take r text' ≡ bytes
