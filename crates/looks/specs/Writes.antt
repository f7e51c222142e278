-- What the functions that write parts of the line ask and promise. Assumes nothing.
use Rattle.std.specs.Prelude.{ℕ, ◌+◌, ◌≤◌, ◌∷◌, length}
use Rattle.lines.specs.Lines.{digits, Puts}
use Rattle.model.specs.Formats.{Bytes}

-- there is room for the digits of the bytes
abbrev pub Room : Bytes → Bytes → ℕ → Type 0
Room bytes text at = at + (length bytes + length bytes) ≤ length text

-- the bytes' digits stand from `at` to `next`, and the rest is as it was
abbrev pub Shows : Bytes → Bytes → Bytes → ℕ → ℕ → Type 0
Shows bytes text text' at next = Puts (digits bytes) text text' at next

-- a text: its length and its bytes
abbrev pub texted : Bytes → Bytes
texted t = length t ∷ t
