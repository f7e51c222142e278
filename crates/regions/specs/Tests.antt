-- The tests of a field's bytes and of a slot's: each is a function of the bytes, whatever they are. Assumes nothing.
use Rattle.std.specs.Prelude.{ℕ, List, Bool, false, get_or, eqb, Option, Some, None}
use Rattle.format.specs.Format.{Format}
use Rattle.spans.specs.Bytes.{both, all_zero}
use Rattle.lent.specs.Lent.{part}
use Rattle.reader.specs.Left.{after}
use Rattle.model.specs.Formats.{resource_id, u64}
use Rattle.model.specs.SavedForm.{purpose_f}

-- what is left behind a value are zeros
abbrev pub zeros_left : Option (List ℕ) → Bool
zeros_left None = false
zeros_left (Some t) = all_zero t

-- a value of the format, and zeros behind it
unfoldable pub filled : {A : Type 0} → Format A → List ℕ → Bool
filled f s = zeros_left (after f s)

-- a name, and a value in n bytes behind it
unfoldable pub is_named : {A : Type 0} → ℕ → Format A → List ℕ → Bool
is_named n f s = both (filled resource_id (part 0 33 s)) (filled f (part 33 n s))

-- a request number's key, and a purpose
unfoldable pub is_flight : List ℕ → Bool
is_flight s = both (eqb (get_or s 0 0) 8) (both (filled u64 (part 1 8 s)) (filled purpose_f (part 9 34 s)))
