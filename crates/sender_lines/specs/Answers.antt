-- A use of the sender as a frame, what is written for a line, and the sender's bytes that go on. Assumes nothing.
use Rattle.std.specs.Prelude.{ℕ, List, [], ◌∷◌, ◌++◌, Bool, true, false, ◌⊎◌}
use Rattle.std.proofs.Common.{inl, inr}
use Rattle.format.specs.Format.{Format, via, enum, ◌⊗◌, ◌∣◌, no_case, below, whole_of}
use Rattle.lines.specs.Lines.{digits, frame_of}
use Rattle.model.specs.Formats.{u64}
use Rattle.model.specs.Machine.{match◌none:◌some:◌}
use Rattle.sender_turns.specs.Sender.{Use}
use Rattle.sender_turns.specs.declared.Call.{Call as CallStruct}
use Rattle.sender_bytes.specs.Bytes.{Returned, refused, used_bytes}

abbrev pub UseCases : Type 0
UseCases = (ℕ × ℕ) ⊎ ((ℕ × ℕ) ⊎ (ℕ ⊎ ⊥))

abbrev pub use_to : UseCases → Use
use_to (inl c) = Use.Enter c.0 c.1
use_to (inr (inl c)) = Use.Reply c.0 c.1
use_to (inr (inr (inl mill))) = Use.Resume mill
use_to (inr (inr (inr x))) = absurd x

abbrev pub use_from : Use → UseCases
use_from (Use.Enter mill number) = inl (mill, number)
use_from (Use.Reply mill number) = inr (inl (mill, number))
use_from (Use.Resume mill) = inr (inr (inl mill))

-- a mill is any byte: one above 7 is a use too, which is refused
unfoldable pub mill_f : Format ℕ
mill_f = below 256

-- by the frame's rule: the case's place, the mill and, but for a Resume, the number
unfoldable pub use_f : Format Use
use_f = via use_to use_from (enum ((mill_f ⊗ u64) ∣ (mill_f ⊗ u64) ∣ mill_f ∣ no_case))

-- the answer to a frame: 3 for what is no use
unfoldable pub answered : List ℕ → List ℕ → Returned
answered sender frame = match whole_of use_f frame none: refused 3 sender some: (λ u. used_bytes u sender)

-- bytes as a line: their digits and a line feed
abbrev pub line : List ℕ → List ℕ
line s = digits s ++ (10 ∷ [])

-- one byte, 0 or the refusal, and two bytes that count grants; then a line for the grant, its mill and number
unfoldable pub grant_text : ℕ → Bool × CallStruct → List ℕ
grant_text code (true, call) = line (code ∷ 0 ∷ 1 ∷ []) ++ line (call.mill ∷ u64.enc call.number)
grant_text code (false, call) = line (code ∷ 0 ∷ 0 ∷ [])

-- what is written for a line, and the sender after it
unfoldable pub reply : List ℕ → List ℕ → List ℕ
reply sender text = grant_text (answered sender (frame_of text)).code (answered sender (frame_of text)).grant

unfoldable pub after_line : List ℕ → List ℕ → List ℕ
after_line sender text = (answered sender (frame_of text)).bytes
