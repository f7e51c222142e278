-- Lines that hold no frame, and what the program answers to them: "Lines over 16,384 digits, odd lengths, empty lines and lines with any
-- other byte give 3". Theorems.antt of proofs/ has the proofs. Assumes nothing.
use Rattle.std.specs.Prelude.{ℕ, ◌+◌, ◌<◌, ◌≡◌, [], ◌∷◌, ◌++◌, length, Some, None}
use Rattle.lines.specs.Lines.{value, max_digits, frame_of}
use Rattle.model.specs.Event.{ascii}
use Rattle.model.specs.State.{SyncState}
use Rattle.model.specs.Limits.{document01}
use Rattle.model.specs.Formats.{Bytes}
use Rattle.model.specs.Entry.{read_state, decode, step_bytes}
use Rattle.program.specs.Program.{answer_text, bytes_after}

-- the four kinds of lines that hold no frame
pub data NoFrameIn : Bytes → Type 0 where
  long : {line : Bytes} → max_digits < length line → NoFrameIn line
  odd : {line : Bytes} (half : ℕ) → length line ≡ half + half + 1 → NoFrameIn line
  empty : NoFrameIn []
  -- a byte that is no digit
  other : (front : Bytes) (byte : ℕ) (back : Bytes) → value byte ≡ None → NoFrameIn (front ++ byte ∷ back)

-- the line is answered by 030000, and the state stays
pub record AnswersThree (state line : Bytes) : Type 0 where
  pub says : answer_text (step_bytes document01 state (frame_of line)) ≡ ascii "030000" ++ (10 ∷ [])
  pub stays : bytes_after state (step_bytes document01 state (frame_of line)) ≡ state

-- from every state, for every line whose bytes are no input
abbrev pub NoInput : Type 0
NoInput = (state : Bytes) (s : SyncState) → read_state document01 state ≡ Some s → (line : Bytes) → decode (frame_of line) ≡ None → AnswersThree state line

-- and so for every line whose frame is empty, as it is where the line holds none
abbrev pub EmptyFrame : Type 0
EmptyFrame = (state : Bytes) (s : SyncState) → read_state document01 state ≡ Some s → (line : Bytes) → frame_of line ≡ [] → AnswersThree state line

abbrev pub Frameless : Type 0
Frameless = (line : Bytes) → NoFrameIn line → frame_of line ≡ []
