-- The sender as the code holds it: arrays of fixed lengths, each place past what is held zero. So equal senders are equal structs. And what
-- the methods promise. Assumes nothing.
use Rattle.std.specs.Prelude.{ℕ, ◌-◌, ◌≡◌, List, [], ◌∷◌, ◌++◌, map, length, replicate, Option, Some, None, Result, Ok, Err}
use Rattle.sender_turns.specs.Sender.{Call, Sender, Use, Answer, calls, lane_size, used, sender_after}
use Rattle.sender_turns.specs.Claims.{Settled}
use Rattle.sender_turns.specs.declared.Lane.{Lane}
use Rattle.sender_turns.specs.declared.Call.{Call as CallStruct}
use Rattle.sender_turns.specs.declared.Sender.{Sender as SenderStruct}
use Rattle.sender_turns.specs.declared.Refusal.{Refusal}
use Rattle.sender_turns.specs.declared.Refusal.TheVariants.{NoSuchMill, LaneFull}

unfoldable pub lane_of : List ℕ → Lane
lane_of l = record { numbers = l ++ replicate (lane_size - length l) 0; count = length l }

unfoldable pub call_of : Call → CallStruct
call_of c = record { mill = c.0; number = c.1 }

-- a place that holds no call
abbrev pub no_call : CallStruct
no_call = record { mill = 0; number = 0 }

unfoldable pub calls_of : List Call → List CallStruct
calls_of out = map call_of out ++ replicate (calls - length out) no_call

unfoldable pub laid_out : Sender → SenderStruct
laid_out s = record { lanes = map lane_of s.lanes; calls = calls_of s.out; out = length s.out; turn = s.turn }

-- ---- answers

-- a refusal's number
abbrev pub number_of : Refusal → ℕ
number_of NoSuchMill = 11
number_of LaneFull = 12

-- an answer of the code: the call that was granted, if one was, or the refusal, by its number
abbrev pub numbered : Result (Option CallStruct) Refusal → Result (Option CallStruct) ℕ
numbered (Ok granted) = Ok granted
numbered (Err e) = Err (number_of e)

-- the grant, if there is one: a use has at most one (OneGrant of Claims.antt)
unfoldable pub one_told : List Call → Option CallStruct
one_told [] = None
one_told (c ∷ told) = Some (call_of c)

-- an answer as the code gives it
unfoldable pub told_as : Answer → Result (Option CallStruct) ℕ
told_as (Answer.Refused n) = Err n
told_as (Answer.Done t) = Ok (one_told t.grants)

-- the code's answer is this one, and it leaves the sender after it
pub record Says (s : Sender) (a : Answer) (left : SenderStruct) (r : Result (Option CallStruct) Refusal) : Type 0 where
  pub told : numbered r ≡ told_as a
  pub leaves : left ≡ laid_out (sender_after s a)

-- what a method promises of its answer and of what it leaves, for every sender that uses lead to
pub record Answers (u : Use) (before left : SenderStruct) (r : Result (Option CallStruct) Refusal) : Type 0 where
  pub is : (s : Sender) → Settled s → before ≡ laid_out s → Says s (used u s) left r
