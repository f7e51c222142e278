-- What the functions of the program promise. Assumes nothing.
use Rattle.std.specs.Prelude.{ℕ, ◌≤◌, ◌≡◌, List, ◌++◌, length, take}
use Rattle.format.specs.Format.{All}
use Rattle.lines.specs.Lines.{frame_of, Puts}
use Rattle.model.specs.Calls.{Effect}
use Rattle.model.specs.Limits.{document01}
use Rattle.model.specs.Formats.{Bytes, effect_f, enc_effects}
use Rattle.model.specs.Entry.{step_bytes}
use Rattle.model.specs.Demands.{effects_of}
use Rattle.program.specs.Program.{line, answer_bytes, effect_lines, answer_text, bytes_after}
use Rattle.program.specs.declared.Listed.{Listed}
use Rattle.program.specs.declared.Reply.{Reply}

-- the bytes are those of effects
pub record Effects (bytes : Bytes) : Type 0 where
  pub es : List Effect
  pub ok : All effect_f.Ok es
  pub is : bytes ≡ enc_effects es

-- a line for each effect stands from `at` on
pub record Lists (es : List Effect) (text text' : Bytes) (at : ℕ) (r : Listed) : Type 0 where
  pub puts : Puts (effect_lines es) text text' at r.next
  pub count : r.count ≡ length es
  pub within : r.next ≤ length text

-- the answer's line, and then the effects'
pub record Answers (code : ℕ) (es : List Effect) (text : Bytes) (r : ℕ) : Type 0 where
  pub fits : r ≤ length text
  pub is : take r text ≡ line (answer_bytes code (length es)) ++ effect_lines es

-- the buffers that the program lends for each line
pub record Buffers (state work out frame text : Bytes) : Type 0 where
  pub for_state : length state ≡ 58543
  pub for_work : length work ≡ 58543
  pub for_out : length out ≡ 32768
  pub for_frame : 8192 ≤ length frame
  pub for_text : 98311 ≤ length text

-- the line's answer, its effects in the output, and the state that the program goes on with
pub record Answered (line state state' out' text' : Bytes) (r : Reply) : Type 0 where
  pub fits : r.text ≤ length text'
  pub says : take r.text text' ≡ answer_text (step_bytes document01 state (frame_of line))
  pub fits_out : r.effects ≤ length out'
  pub tells : take r.effects out' ≡ enc_effects (effects_of (step_bytes document01 state (frame_of line)))
  pub goes_on : state' ≡ bytes_after state (step_bytes document01 state (frame_of line))
