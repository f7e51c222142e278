-- The bytes of a sender in a lent buffer, and what a use answers and leaves there, for all bytes. A lane is a count byte, its numbers and zeros; so are the
-- calls out; the turn is a byte. Assumes nothing.
use Rattle.std.specs.Prelude.{ℕ, ◌+◌, ◌*◌, ◌≡◌, List, Bool, true, false, length, leb, eqb, Option, Some, None}
use Rattle.format.specs.Format.{Format, All, concat_map, repeated, ◌⊗◌, via, below, such, whole_of}
use Rattle.model.specs.Maps.{when◌then◌else◌, is_empty}
use Rattle.model.specs.Machine.{match◌none:◌some:◌}
use Rattle.model.specs.WellFormed.{all}
use Rattle.model.specs.Formats.{u64}
use Rattle.model.specs.Layout.{table}
use Rattle.sender_turns.specs.Sender.{Call, Sender, Use, Answer, mills, calls, lane_size, fresh, after, used}
use Rattle.sender_turns.specs.Claims.{last_mill}
use Rattle.sender_turns.specs.Laid.{no_call, one_told}
use Rattle.sender_turns.specs.declared.Call.{Call as CallStruct}

-- ---- widths

abbrev pub number_bytes : ℕ
number_bytes = 8

-- the mill, and the request number
abbrev pub call_bytes : ℕ
call_bytes = 1 + number_bytes

abbrev pub lane_bytes : ℕ
lane_bytes = 1 + lane_size * number_bytes

abbrev pub out_bytes : ℕ
out_bytes = 1 + calls * call_bytes

-- the length of a sender's buffer
abbrev pub sender_length : ℕ
sender_length = mills * lane_bytes + (out_bytes + 1)

-- ---- formats

-- exactly so many values, one after the other
unfoldable pub each : {A : Type 0} → ℕ → Format A → Format (List A)
each n f = record { Ok = λ xs. (length xs ≡ n) × All f.Ok xs; enc = concat_map f.enc; dec = repeated f.dec n }

unfoldable pub lane_f : Format (List ℕ)
lane_f = table lane_size number_bytes u64

unfoldable pub call_f : Format Call
call_f = below mills ⊗ u64

abbrev pub sender_to : List (List ℕ) × (List Call × ℕ) → Sender
sender_to = λ (lanes, (out, turn)). record { lanes = lanes; out = out; turn = turn }

abbrev pub sender_from : Sender → List (List ℕ) × (List Call × ℕ)
sender_from s = (s.lanes, (s.out, s.turn))

-- a use leaves either four calls out, the last of them the last granted, or nothing waiting
unfoldable pub is_settled : Sender → Bool
is_settled s = when leb calls (length s.out) then eqb s.turn (after (last_mill s.out)) else all is_empty s.lanes

-- the bytes of the senders that uses lead to
unfoldable pub sender_f : Format Sender
sender_f = such is_settled (via sender_to sender_from (each mills lane_f ⊗ table calls call_bytes call_f ⊗ below mills))

-- the sender whose bytes these are, if there is one
unfoldable pub read_sender : List ℕ → Option Sender
read_sender bytes = whole_of sender_f bytes

-- ---- uses

pub record Returned : Type 0 where
  -- 0, or the refusal's number
  pub code : ℕ
  -- whether a call was granted, and the call; else zeros
  pub grant : Bool × CallStruct
  -- the buffer as the use leaves it
  pub bytes : List ℕ

abbrev pub grant_told : Option CallStruct → Bool × CallStruct
grant_told None = (false, no_call)
grant_told (Some call) = (true, call)

unfoldable pub refused : ℕ → List ℕ → Returned
refused n bytes = record { code = n; grant = grant_told None; bytes = bytes }

unfoldable pub returned : List ℕ → Answer → Returned
returned bytes (Answer.Refused n) = refused n bytes
returned bytes (Answer.Done t) = record { code = 0; grant = grant_told (one_told t.grants); bytes = sender_f.enc t.sender }

-- a use: refusal 1 for a wrong length, then 2 for bytes that are no sender's, then what the use of the sender answers. A refusal leaves the buffer as it was
unfoldable pub used_bytes : Use → List ℕ → Returned
used_bytes u bytes =
    when eqb (length bytes) sender_length then (match read_sender bytes none: refused 2 bytes some: (λ s. returned bytes (used u s)))
    else refused 1 bytes

-- making a fresh sender: 1, and the buffer as it is, where the length is wrong
unfoldable pub freshened : List ℕ → ℕ × List ℕ
freshened bytes = when eqb (length bytes) sender_length then (0, sender_f.enc fresh) else (1, bytes)
