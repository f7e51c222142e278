-- What is lent for a line, and what was written for it. Assumes nothing.
use Rattle.std.specs.Prelude.{ℕ, ◌≤◌, List, length}
use Rattle.lines.specs.Lines.{max_frame}
use Rattle.sender_lines.specs.Promises.{text_bytes, Replies}

-- room for a frame and for an answer
pub record Lent (frame text : List ℕ) : Type 0 where
  pub for_frame : max_frame ≤ length frame
  pub for_text : text_bytes ≤ length text

-- some text was handed over: the reply to the line
pub record Replied (line sender sender' text' : List ℕ) : Type 0 where
  pub length_of : ℕ
  pub is : Replies line sender sender' text' length_of
