-- The tests of the in_flight slots against `next_request` and against the waiting entries' slots. Assumes nothing.
use Rattle.std.specs.Prelude.{ℕ, List, Bool, not, take, drop, get_or, ltb, eqb, count_by, is_ok}
use Rattle.std.specs.List.{list_all}
use Rattle.spans.specs.Bytes.{both}
use Rattle.spans.specs.Compare.{order}
use Rattle.numbers.specs.Big.{from_be}
use Rattle.tables.specs.Table.{Table, text, place, either, is_equal}

-- the number of an in_flight slot is below n
unfoldable pub is_below : ℕ → List ℕ → Bool
is_below n s = ltb (from_be 0 (take 8 (drop 1 s))) n

-- its purpose is EditRead or EditWrite
unfoldable pub is_edit : List ℕ → Bool
is_edit s = either (eqb (get_or s 9 0) 2) (eqb (get_or s 9 0) 3)

-- the key of the purpose's resource
abbrev pub key_in : List ℕ → List ℕ
key_in s = take 33 (drop 10 s)

-- if it is for an edit, entries of its resource wait
unfoldable pub is_queued : Table → List ℕ → Bool
is_queued entries s = either (not (is_edit s)) (is_ok (place 5940 (key_in s) entries 1))

-- it is for an edit of the resource whose key starts a slot
unfoldable pub is_for : List ℕ → List ℕ → Bool
is_for key s = both (is_edit s) (is_equal (order (text (key_in s)) (text key)))

-- one request in flight is for an edit of its resource
unfoldable pub is_asked : Table → List ℕ → Bool
is_asked flights key = eqb (count_by (is_for key) flights) 1

-- all three
unfoldable pub agree : ℕ → Table → Table → Bool
agree n flights entries = both (list_all (is_below n) flights) (both (list_all (is_asked flights) entries) (list_all (is_queued entries) flights))
