-- What a reader answers: the value at the front of the bytes and the bytes that are left, or nothing. Assumes nothing.
use Rattle.std.specs.Prelude.{ℕ, List, Option, Some, None}
use Rattle.format.specs.Format.{Format, Got}
use Rattle.reader.specs.declared.Reader.{Reader}

-- the bytes from a reading place on
abbrev pub rest : Reader → List ℕ
rest r = r.rest.now

-- what was read, and what is left of it: `mean` says what the code's answer stands for
abbrev pub got : {T A : Type 0} → (T → A) → Option (T × Reader) → Got A
got mean None = None
got mean (Some r) = Some (mean r.0, rest r.1)

-- what is left behind a value that was walked past
abbrev pub left : Option Reader → Option (List ℕ)
left None = None
left (Some r) = Some (rest r)

abbrev pub past : {A : Type 0} → Got A → Option (List ℕ)
past None = None
past (Some r) = Some r.1

-- the bytes behind the value of the format at the front of s, if one stands there
unfoldable pub after : {A : Type 0} → Format A → List ℕ → Option (List ℕ)
after f s = past (f.dec s)
