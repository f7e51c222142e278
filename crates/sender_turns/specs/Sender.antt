-- Change request 11/13, fair turns at the provider: what a sender is, and what each use of it does. Assumes nothing.
use Rattle.std.specs.Prelude.{ℕ, zero, suc, ◌+◌, ◌-◌, List, [], ◌∷◌, ◌++◌, Bool, ◌&&◌, length, get_or, set, replicate, leb, eqb, Option, Some, None}
use Rattle.model.specs.Maps.{when◌then◌else◌, is_empty}

-- the mills on the account, the calls that may be out at a time, the requests that a lane holds
abbrev pub mills : ℕ
mills = 8

abbrev pub calls : ℕ
calls = 4

abbrev pub lane_size : ℕ
lane_size = 24

-- a call: its mill and its request number
abbrev pub Call : Type 0
Call = ℕ × ℕ

pub record Sender : Type 0 where
  -- a lane for each mill: its requests that wait, the oldest first
  pub lanes : List (List ℕ)
  -- the calls out, in the order of their grants
  pub out : List Call
  -- the mill that is asked first: the one after the last granted
  pub turn : ℕ

pub data Use : Type 0 where
  -- a request enters its mill's lane
  Enter : (mill number : ℕ) → Use
  -- the reply to a call has come
  Reply : (mill number : ℕ) → Use
  -- the mill's lane is emptied; its new requests enter after it
  Resume : (mill : ℕ) → Use

unfoldable pub fresh : Sender
fresh = record { lanes = replicate mills []; out = []; turn = 0 }

unfoldable pub lane : ℕ → List (List ℕ) → List ℕ
lane mill lanes = get_or lanes mill []

-- ---- granting

-- the mill after this one: 0 after the last
unfoldable pub after : ℕ → ℕ
after mill = when eqb (mill + 1) mills then 0 else mill + 1

-- the first mill with a request waiting, of so many that are asked from this one on
unfoldable pub next_mill : (asked mill : ℕ) → List (List ℕ) → Option ℕ
next_mill zero mill lanes = None
next_mill (suc asked) mill lanes = when is_empty (lane mill lanes) then next_mill asked (after mill) lanes else Some mill

unfoldable pub first_of : List ℕ → ℕ
first_of [] = 0
first_of (n ∷ l) = n

unfoldable pub rest_of : List ℕ → List ℕ
rest_of [] = []
rest_of (n ∷ l) = l

-- the oldest request of the mill goes out, and the turn moves on
unfoldable pub granted : ℕ → Sender → Sender
granted mill s = record {
  lanes = set s.lanes mill (rest_of (lane mill s.lanes));
  out = s.out ++ (mill, first_of (lane mill s.lanes)) ∷ [];
  turn = after mill;
}

pub record Told : Type 0 where
  -- the grants of a use, in their order
  pub grants : List Call
  pub sender : Sender

unfoldable pub telling : Call → Told → Told
telling call t = record { grants = call ∷ t.grants; sender = t.sender }

-- every grant possible while so many calls are free
unfoldable pub grants : (free : ℕ) → Sender → Told
grants zero s = record { grants = []; sender = s }
grants (suc free) s = elim (next_mill mills s.turn s.lanes) [
  | None ↦ record { grants = []; sender = s }
  | Some mill ↦ telling (mill, first_of (lane mill s.lanes)) (grants free (granted mill s))
]

unfoldable pub grant_all : Sender → Told
grant_all s = grants (calls - length s.out) s

-- ---- uses

unfoldable pub same_call : Call → Call → Bool
same_call a b = eqb a.0 b.0 && eqb a.1 b.1

-- one call of this mill and number is freed; where none is out, nothing changes
unfoldable pub freed : Call → List Call → List Call
freed call [] = []
freed call (c ∷ out) = when same_call call c then out else c ∷ freed call out

unfoldable pub with_lane : ℕ → List ℕ → Sender → Sender
with_lane mill l s = record { lanes = set s.lanes mill l; out = s.out; turn = s.turn }

unfoldable pub with_out : List Call → Sender → Sender
with_out out s = record { lanes = s.lanes; out = out; turn = s.turn }

pub data Answer : Type 0 where
  -- a refusal's number; the sender stays as it is
  Refused : ℕ → Answer
  Done : Told → Answer

unfoldable pub mill_of : Use → ℕ
mill_of (Use.Enter mill number) = mill
mill_of (Use.Reply mill number) = mill
mill_of (Use.Resume mill) = mill

unfoldable pub take_use : Use → Sender → Answer
take_use (Use.Enter mill number) s =
    when leb lane_size (length (lane mill s.lanes)) then Answer.Refused 12
    else Answer.Done (grant_all (with_lane mill (lane mill s.lanes ++ number ∷ []) s))
take_use (Use.Reply mill number) s = Answer.Done (grant_all (with_out (freed (mill, number) s.out) s))
take_use (Use.Resume mill) s = Answer.Done (grant_all (with_lane mill [] s))

-- a use: refusal 11 for a mill that is not there, then 12 for a full lane; else it ends with every grant possible
unfoldable pub used : Use → Sender → Answer
used u s = when leb mills (mill_of u) then Answer.Refused 11 else take_use u s

-- ---- lists of uses

unfoldable pub sender_after : Sender → Answer → Sender
sender_after s (Answer.Refused n) = s
sender_after s (Answer.Done t) = t.sender

unfoldable pub told_by : Answer → List Call
told_by (Answer.Refused n) = []
told_by (Answer.Done t) = t.grants

unfoldable pub sender_over : Sender → List Use → Sender
sender_over s [] = s
sender_over s (u ∷ uses) = sender_over (sender_after s (used u s)) uses

-- the grants that the uses tell, in their order
unfoldable pub told_over : Sender → List Use → List Call
told_over s [] = []
told_over s (u ∷ uses) = told_by (used u s) ++ told_over (sender_after s (used u s)) uses
