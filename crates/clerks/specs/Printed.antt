-- What is printed for an input, and what the functions promise. Assumes nothing.
use Rattle.std.specs.Prelude.{ℕ, List, ◌++◌}
use Rattle.model.specs.Machine.{match◌none:◌some:◌}
use Rattle.lines.specs.Lines.{frame_of}
use Rattle.input.specs.Input.{lines_of}
use Rattle.input.specs.Only.{only}
use Rattle.clerks_model.specs.Answer.{Answer, no_frame, two_clerks}
use Rattle.clerks_lines.specs.Text.{text_of, Starts}

-- the frame is the one line of the input; anything else is no frame
unfoldable pub printed : List ℕ → List ℕ
printed input = match only (lines_of input) none: text_of (Answer.Refused no_frame) some: (λ text. text_of (two_clerks (frame_of text)))

-- it starts with what is printed for what was left and what came then
pub record Prints (left text' : List ℕ) (r : ℕ) : Type 0 where
  pub more : List ℕ
  pub is : Starts (printed (left ++ more)) text' r
