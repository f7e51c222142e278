-- The struct that bytes stand for, whatever they are, and the bytes of a struct; and what the functions promise. Assumes nothing.
use Rattle.std.specs.Prelude.{ℕ, zero, suc, ◌+◌, ◌*◌, ◌≡◌, List, [], ◌∷◌, ◌++◌, length, take, drop, get_or, eqb, Bool, Option, Some, None, Result, Ok, Err, IfOk}
use Rattle.format.specs.Format.{concat_map}
use Rattle.model.specs.Maps.{when◌then◌else◌}
use Rattle.model.specs.Machine.{match◌none:◌some:◌}
use Rattle.numbers.specs.Big.{from_be, to_be}
use Rattle.sender_turns.specs.Sender.{Sender, Use, mills, calls, lane_size}
use Rattle.sender_turns.specs.Claims.{Settled}
use Rattle.sender_turns.specs.Laid.{laid_out}
use Rattle.sender_turns.specs.Laid as turns
use Rattle.sender_turns.specs.declared.Lane.{Lane}
use Rattle.sender_turns.specs.declared.Call.{Call as CallStruct}
use Rattle.sender_turns.specs.declared.Sender.{Sender as SenderStruct}
use Rattle.sender_bytes.specs.Bytes.{number_bytes, call_bytes, lane_bytes, out_bytes, sender_length, read_sender, grant_told, used_bytes}
use Rattle.sender_bytes.specs.declared.Refusal.{Refusal}
use Rattle.sender_bytes.specs.declared.Refusal.TheVariants.{WrongLength, NoSender, Use as UseOf}

-- ---- bytes as a struct

-- so many values, of so many bytes each, one after the other
unfoldable pub parts : {A : Type 0} → (width : ℕ) → (List ℕ → A) → ℕ → List ℕ → List A
parts width value zero b = []
parts width value (suc n) b = value b ∷ parts width value n (drop width b)

unfoldable pub number_in : List ℕ → ℕ
number_in b = from_be 0 (take number_bytes b)

unfoldable pub lane_in : List ℕ → Lane
lane_in b = record { numbers = parts number_bytes number_in lane_size (drop 1 b); count = get_or b 0 0 }

unfoldable pub call_in : List ℕ → CallStruct
call_in b = record { mill = get_or b 0 0; number = number_in (drop 1 b) }

unfoldable pub sender_in : List ℕ → SenderStruct
sender_in b = record {
  lanes = parts lane_bytes lane_in mills b;
  calls = parts call_bytes call_in calls (drop (mills * lane_bytes + 1) b);
  out = get_or b (mills * lane_bytes) 0;
  turn = get_or b (mills * lane_bytes + out_bytes) 0;
}

-- ---- a struct as bytes

unfoldable pub lane_out : Lane → List ℕ
lane_out l = l.count ∷ concat_map (to_be number_bytes) l.numbers

unfoldable pub call_out : CallStruct → List ℕ
call_out c = c.mill ∷ to_be number_bytes c.number

unfoldable pub sender_out : SenderStruct → List ℕ
sender_out x = concat_map lane_out x.lanes ++ (x.out ∷ concat_map call_out x.calls ++ x.turn ∷ [])

-- the bytes, with these at `at`
abbrev pub with_at : ℕ → List ℕ → List ℕ → List ℕ
with_at at part b = take at b ++ (part ++ drop (at + length part) b)

-- ---- promises

-- the struct is a sender's that uses lead to
pub record IsSender (x : SenderStruct) : Type 0 where
  pub sender : Sender
  pub settled : Settled sender
  pub is : x ≡ laid_out sender

-- why these bytes hold no sender: 1 or 2; 0 where they hold one
unfoldable pub refusal : List ℕ → ℕ
refusal b = when eqb (length b) sender_length then (match read_sender b none: 2 some: (λ s. 0)) else 1

-- a refusal's number
abbrev pub number_of : Refusal → ℕ
number_of WrongLength = 1
number_of NoSender = 2
number_of (UseOf e) = turns.number_of e

-- 0, or the refusal's number
abbrev pub code_of : {A : Type 0} → Result A Refusal → ℕ
code_of (Ok x) = 0
code_of (Err e) = number_of e

pub record HeldIn (b : List ℕ) (r : Result SenderStruct Refusal) : Type 0 where
  pub is : code_of r ≡ refusal b
  pub sender : IfOk r (λ x. (s : Sender) → read_sender b ≡ Some s → x ≡ laid_out s)

-- what users of C are answered: 0 or the refusal's number; whether a call was granted, and the call; else zeros
pub record Granted : Type 0 where
  pub code : ℕ
  pub granted : Bool
  pub call : CallStruct

-- a use's answer in these parts
unfoldable pub granted_by : Result (Option CallStruct) Refusal → Granted
granted_by (Ok grant) = record { code = 0; granted = (grant_told grant).0; call = (grant_told grant).1 }
granted_by (Err e) = record { code = number_of e; granted = (grant_told None).0; call = (grant_told None).1 }

-- a use over bytes
pub record Uses (u : Use) (before after : List ℕ) (r : Granted) : Type 0 where
  pub is : record { code = r.code; grant = (r.granted, r.call); bytes = after } ≡ used_bytes u before
