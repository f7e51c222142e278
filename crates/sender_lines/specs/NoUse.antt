-- What is claimed of frames, and of lines that hold no use. Proved in proofs/Theorems.antt. Assumes nothing.
use Rattle.std.specs.Prelude.{ℕ, ◌≡◌, ◌↔◌, List, [], ◌∷◌, ◌++◌, Some, None}
use Rattle.format.specs.Format.{whole_of}
use Rattle.lines.specs.Lines.{frame_of}
use Rattle.model.specs.Event.{ascii}
use Rattle.sender_turns.specs.Sender.{Use}
use Rattle.sender_lines.specs.Answers.{use_f, reply, after_line}

-- a frame is a use exactly where it is that use's bytes
abbrev pub UseExact : Type 0
UseExact = (frame : List ℕ) (u : Use) → (whole_of use_f frame ≡ Some u) ↔ (use_f.Ok u × (frame ≡ use_f.enc u))

-- the line is answered by 030000, and the sender's bytes stay
pub record AnswersThree (sender text : List ℕ) : Type 0 where
  pub says : reply sender text ≡ ascii "030000" ++ (10 ∷ [])
  pub stays : after_line sender text ≡ sender

-- for every line whose bytes are no use
abbrev pub HoldsNoUse : Type 0
HoldsNoUse = (sender text : List ℕ) → whole_of use_f (frame_of text) ≡ None → AnswersThree sender text

-- and so for every line that holds no frame, the empty line among them
abbrev pub HoldsNoFrame : Type 0
HoldsNoFrame = (sender text : List ℕ) → frame_of text ≡ [] → AnswersThree sender text
