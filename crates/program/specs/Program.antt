-- The program of docs/FRAMES.md, "The program's lines": what it prints for a line, and the state's bytes that it goes on with. Assumes nothing.
use Rattle.std.specs.Prelude.{ℕ, List, [], ◌∷◌, ◌++◌, length}
use Rattle.format.specs.Format.{big_endian}
use Rattle.lines.specs.Lines.{digits}
use Rattle.model.specs.Calls.{Effect}
use Rattle.model.specs.Limits.{document01}
use Rattle.model.specs.Formats.{Bytes, effect_f}
use Rattle.model.specs.Sync.{Stepped}
use Rattle.model.specs.Layout.{state_layout}

-- bytes as a line: their digits and a line feed
abbrev pub line : Bytes → Bytes
line s = digits s ++ (10 ∷ [])

-- 0 or the refusal, and two bytes counting effects
abbrev pub answer_bytes : ℕ → ℕ → Bytes
answer_bytes code count = code ∷ big_endian 2 count

-- one line an effect
unfoldable pub effect_lines : List Effect → Bytes
effect_lines [] = []
effect_lines (e ∷ es) = line (effect_f.enc e) ++ effect_lines es

unfoldable pub answer_text : Stepped → Bytes
answer_text (Stepped.Refused n) = line (answer_bytes n 0)
answer_text (Stepped.Done s es) = line (answer_bytes 0 (length es)) ++ effect_lines es

-- a refused step keeps the state
unfoldable pub bytes_after : Bytes → Stepped → Bytes
bytes_after state (Stepped.Refused n) = state
bytes_after state (Stepped.Done s es) = (state_layout document01).enc s
