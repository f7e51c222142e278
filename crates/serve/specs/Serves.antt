-- What is written for a line, the state after it, and what the functions promise. Assumes nothing.
use Rattle.std.specs.Prelude.{ℕ, ◌+◌, ◌*◌, ◌≤◌, ◌≡◌, Bool, cond, [], ◌++◌, length, take}
use Rattle.lines.specs.Lines.{frame_of}
use Rattle.model.specs.Limits.{document01, max_effects}
use Rattle.model.specs.Formats.{Bytes}
use Rattle.model.specs.Entry.{step_bytes}
use Rattle.looks.specs.Look.{look_line, look_bytes}
use Rattle.program.specs.Program.{answer_text, bytes_after}
use Rattle.program.specs.Answers.{Buffers}

-- the state's bytes after a line
unfoldable pub after_line : Bytes → Bytes → Bytes
after_line state line = bytes_after state (step_bytes document01 state (frame_of line))

-- the answer to a line and, where that is asked for, what can be read of the state then
unfoldable pub reply : Bool → Bytes → Bytes → Bytes
reply look state line = answer_text (step_bytes document01 state (frame_of line)) ++ cond look (look_line (after_line state line)) []

-- the most bytes that are written for a line: its answer's own line, three bytes in digits, at most two digits and a line feed for each byte of
-- the effects, and what can be read of the state
unfoldable pub text_bytes : ℕ
text_bytes = 7 + 3 * max_effects + look_bytes document01

-- the buffers that are lent for a line, with room for what is written
pub record Lent (state work out frame text : Bytes) : Type 0 where
  pub buffers : Buffers state work out frame text
  pub room : text_bytes ≤ length text

-- the text starts with what is written for the line, and the state goes on
pub record Replies (look : Bool) (line state state' text' : Bytes) (r : ℕ) : Type 0 where
  pub fits : r ≤ length text'
  pub says : take r text' ≡ reply look state line
  pub goes_on : state' ≡ after_line state line

-- some text was handed over: the reply to the line
pub record Replied (look : Bool) (line state state' text' : Bytes) : Type 0 where
  pub length_of : ℕ
  pub is : Replies look line state state' text' length_of
