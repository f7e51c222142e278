-- What the functions promise. Assumes nothing.
use Rattle.std.specs.Prelude.{ℕ, ◌+◌, ◌≤◌, ◌≡◌, List, length, take, Option, None, Result, Ok, Err}
use Rattle.sender_turns.specs.Sender.{Use}
use Rattle.sender_turns.specs.declared.Call.{Call as CallStruct}
use Rattle.sender_bytes.specs.Bytes.{call_bytes, grant_told}
use Rattle.sender_bytes.specs.Read as bytes
use Rattle.sender_lines.specs.Answers.{answered, reply, after_line}
use Rattle.sender_lines.specs.declared.Refusal.{Refusal}
use Rattle.sender_lines.specs.declared.Refusal.TheVariants.{NoUse, Use as UseOf}
use Rattle.sender_lines.specs.declared.Use.{Use as Asked}
use Rattle.sender_lines.specs.declared.Use.TheVariants.{Enter, Reply, Resume}

-- what each case stands for
abbrev pub meant : Asked → Use
meant (Enter mill number) = Use.Enter mill number
meant (Reply mill number) = Use.Reply mill number
meant (Resume mill) = Use.Resume mill

-- a refusal's number
abbrev pub number_of : Refusal → ℕ
number_of NoUse = 3
number_of (UseOf e) = bytes.number_of e

-- 0, or the refusal's number, and the call that was granted, if one was
abbrev pub code_of : Result (Option CallStruct) Refusal → ℕ
code_of (Ok granted) = 0
code_of (Err e) = number_of e

abbrev pub grant_of : Result (Option CallStruct) Refusal → Option CallStruct
grant_of (Ok granted) = granted
grant_of (Err e) = None

-- what a frame asks for is answered, and leaves the sender's bytes
pub record Takes (frame sender sender' : List ℕ) (r : Result (Option CallStruct) Refusal) : Type 0 where
  pub is : record { code = code_of r; grant = grant_told (grant_of r); bytes = sender' } ≡ answered sender frame

-- the bytes of an answer's own line: the code, and two that count grants
abbrev pub head_bytes : ℕ
head_bytes = 3

-- the most bytes that are written for a line: the answer's own line and a call's, two digits a byte and a line feed each
abbrev pub text_bytes : ℕ
text_bytes = (head_bytes + head_bytes + 1) + (call_bytes + call_bytes + 1)

-- the text starts with what is written for the line, and the sender goes on
pub record Replies (line sender sender' text' : List ℕ) (r : ℕ) : Type 0 where
  pub fits : r ≤ length text'
  pub says : take r text' ≡ reply sender line
  pub goes_on : sender' ≡ after_line sender line
