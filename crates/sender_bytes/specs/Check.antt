-- What the functions test of a struct: together, that it is a sender's that uses lead to. That an array has its length is among the tests, and always holds.
-- Assumes nothing.
use Rattle.std.specs.Prelude.{ℕ, ◌-◌, List, Bool, true, false, ◌&&◌, length, drop, get_or, leb, ltb, eqb, if◌then◌else◌}
use Rattle.std.specs.List.{list_all, enumerate_from}
use Rattle.sender_turns.specs.Sender.{mills, calls, lane_size, after}
use Rattle.sender_turns.specs.Laid.{no_call}
use Rattle.sender_turns.specs.declared.Lane.{Lane}
use Rattle.sender_turns.specs.declared.Call.{Call as CallStruct}
use Rattle.sender_turns.specs.declared.Sender.{Sender as SenderStruct}

abbrev pub is_zero : ℕ → Bool
is_zero n = eqb n 0

-- not too many wait, and places past the count are zero
unfoldable pub lane_ok : Lane → Bool
lane_ok l = leb l.count lane_size && (eqb (length l.numbers) lane_size && list_all is_zero (drop l.count l.numbers))

abbrev pub lanes_ok : List Lane → Bool
lanes_ok l = eqb (length l) mills && list_all lane_ok l

-- a place that is used holds a mill's call, any other zeros
unfoldable pub place_ok : Bool → CallStruct → Bool
place_ok true c = ltb c.mill mills
place_ok false c = is_zero c.mill && is_zero c.number

-- these places, counted from `at`, where the first `out` are used
abbrev pub places_ok : (out at : ℕ) → List CallStruct → Bool
places_ok out at l = list_all (λ (i, c). place_ok (ltb i out) c) (enumerate_from at l)

abbrev pub calls_ok : ℕ → List CallStruct → Bool
calls_ok out l = leb out calls && (eqb (length l) calls && places_ok out 0 l)

abbrev pub is_idle : Lane → Bool
is_idle l = is_zero l.count

-- the mill of the call at the last place
abbrev pub at_last : SenderStruct → ℕ
at_last x = (get_or x.calls (calls - 1) no_call).mill

-- with all calls out the last of them is the last granted; else nothing waits
abbrev pub settled_ok : SenderStruct → Bool
settled_ok x = if ltb x.out calls then list_all is_idle x.lanes else eqb x.turn (after (at_last x))
