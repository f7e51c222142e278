-- The parts of an encoded event and of an encoded role: what the code takes out of the bytes. Assumes nothing.
use Rattle.std.specs.Prelude.{ℕ, List, Bool, eqb, get_or}
use Rattle.format.specs.Format.{option}
use Rattle.model.specs.Formats.{short_text, tag, u32, ids_f, fields_f, event_f}
use Rattle.frame.specs.Read.{skips, start}
use Rattle.frame.specs.Meaning.{text_at}
use Rattle.frame.specs.declared.Cursor.{Cursor}
use Rattle.comparison.specs.Bytes.{span}

-- the place of an event's fields
unfoldable pub fields_place : List ℕ → Cursor
fields_place s = skips u32 s (skips (option short_text) s (skips ids_f s start))

-- the place after them
unfoldable pub fields_end : List ℕ → Cursor
fields_end s = skips fields_f s (fields_place s)

-- an event's bytes before its fields, its fields, and its bytes after them
unfoldable pub before_fields : List ℕ → List ℕ
before_fields s = span s 0 (fields_place s).at

unfoldable pub fields_of : List ℕ → List ℕ
fields_of s = span s (fields_place s).at (fields_end s).at

unfoldable pub after_fields : List ℕ → List ℕ
after_fields s = span s (fields_end s).at (skips tag s (fields_end s)).at

-- the event at the front of the bytes
unfoldable pub event_of : List ℕ → List ℕ
event_of s = span s 0 (skips event_f s start).at

-- whether the writer is the owner, and else its address
unfoldable pub owner_of : List ℕ → Bool
owner_of s = eqb (get_or s 0 1) 0

unfoldable pub writer_of : List ℕ → List ℕ
writer_of s = text_at s 1
