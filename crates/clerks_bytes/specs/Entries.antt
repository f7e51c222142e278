-- The attendee lists over bytes. Assumes nothing.
use Rattle.std.specs.Prelude.{ℕ, zero, suc, List, Bool, false, ◌||◌, ltb, length}
use Rattle.units.specs.Units.{attendees_unit, unit_bytes}
use Rattle.attendees.specs.Entries.{occurrence_of, find_bytes}

-- the list of an event's fields
unfoldable pub list_of : List ℕ → List ℕ
list_of fields = unit_bytes fields attendees_unit

-- whether an entry has the folded address
unfoldable pub stands_in : List ℕ → List ℕ → Bool
stands_in list address = ltb 0 (length (find_bytes list address 0))

-- whether one of the first n entries has the folded address of one before it
unfoldable pub twice_in : List ℕ → ℕ → Bool
twice_in list zero = false
twice_in list (suc n) = twice_in list n || ltb 0 (occurrence_of list n)
