-- Change request 11/13, over bytes: which bytes are a sender's, and what is claimed of lists of calls of enter, reply and resume from a fresh one. A call is
-- known by what its function ensures, and by nothing else. Proved in proofs/Theorems.antt. Assumes nothing.
use Rattle.std.specs.Prelude.{ℕ, ◌^◌, ◌≤◌, ◌<◌, ◌≡◌, ◌⊎◌, ◌↔◌, List, [], ◌∷◌, ◌++◌, map, length, Some}
use Rattle.format.specs.Format.{All}
use Rattle.model.specs.Maps.{when◌then◌else◌}
use Rattle.sender_turns.specs.Sender.{Call, Sender, Use, mills, fresh, lane, sender_over, told_over}
use Rattle.sender_turns.specs.Claims.{Waits, NoResume, Within, numbers_of, entered_over, carried, Reached}
use Rattle.sender_bytes.specs.Bytes.{number_bytes, sender_length, sender_f, read_sender}
use Rattle.sender_bytes.specs.Read.{Granted, Uses}

-- ---- which bytes are a sender's

-- bytes are read as a sender exactly where uses of a fresh one lead to it and they are its bytes
pub record SendersExact (b : List ℕ) (s : Sender) : Type 0 where
  pub is : (read_sender b ≡ Some s) ↔ (Reached (256 ^ number_bytes) s × (b ≡ sender_f.enc s))

-- such senders have bytes of one length
abbrev pub SendersLong : Type 0
SendersLong = (s : Sender) → Reached (256 ^ number_bytes) s → length (sender_f.enc s) ≡ sender_length

-- ---- lists of calls

-- a call: what the function was called with, the buffer before and after it, what it answered, and what it ensures
pub record Called : Type 0 where
  pub asked : Use
  pub before : List ℕ
  pub after : List ℕ
  pub answer : Granted
  pub is : Uses asked before after answer
  -- a request number is a u64
  pub given : All (λ n. n < 256 ^ number_bytes) (carried asked)

abbrev pub uses_of : List Called → List Use
uses_of l = map (λ c. c.asked) l

-- each call is of the buffer as the call before it left it
unfoldable pub Linked : List ℕ → List Called → Type 0
Linked b [] = Unit {0}
Linked b (c ∷ l) = (c.before ≡ b) × Linked c.after l

-- the buffer that the calls leave
unfoldable pub left : List ℕ → List Called → List ℕ
left b [] = b
left b (c ∷ l) = left c.after l

-- the grants that the answers tell, in their order
unfoldable pub told : List Called → List Call
told [] = []
told (c ∷ l) = (when c.answer.granted then (c.answer.call.mill, c.answer.call.number) ∷ [] else []) ++ told l

-- done, or refused for its mill or a full lane: not for the buffer
abbrev pub Answered : Called → Type 0
Answered c = (c.answer.code ≡ 0) ⊎ ((c.answer.code ≡ 11) ⊎ (c.answer.code ≡ 12))

-- the sender that the calls make of a fresh one, by the definitions
abbrev pub sender_by : List Called → Sender
sender_by l = sender_over fresh (uses_of l)

-- of calls from a fresh sender's bytes, and of calls after these
pub record Meets (start : List ℕ) (before later : List Called) : Type 0 where
  -- what is told, and the bytes that are left, are the definitions'
  pub tells : told later ≡ told_over (sender_by before) (uses_of later)
  pub leaves : left start before ≡ sender_f.enc (sender_by before)
  -- and they are read as that sender
  pub reads : read_sender (left start before) ≡ Some (sender_by before)
  -- no call finds a wrong length, or bytes that are no sender's
  pub answered : All Answered (before ++ later)
  -- a lane with a request waiting, and not emptied by its own mill's Resume, gets a grant within the next eight grants
  pub fair : (mill : ℕ) → mill < mills → Waits mill (sender_by before) → NoResume mill (uses_of later) → mills ≤ length (told later) → Within mills mill (told later)
  -- a mill's order of requests is kept: what it is granted and then its lane are its lane before and then what entered
  pub ordered : (mill : ℕ) → mill < mills → NoResume mill (uses_of later)
      → numbers_of mill (told later) ++ lane mill (sender_over (sender_by before) (uses_of later)).lanes
      ≡ lane mill (sender_by before).lanes ++ entered_over mill (sender_by before) (uses_of later)

-- the start is a fresh sender's bytes, as `fresh` ensures
abbrev pub EveryListOfCalls : Type 0
EveryListOfCalls = (start : List ℕ) → start ≡ sender_f.enc fresh → (before later : List Called) → Linked start before → Linked (left start before) later → Meets start before later
