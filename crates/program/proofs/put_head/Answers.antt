use Rattle.program.proofs.Laws.{head_is}
use Rattle.program.specs.Program.{line}
use Rattle.lines.specs.Lines.{Puts}
use Prim.Native.Nat.{ℕ}
use mathlib.Core.List.{List}
use mathlib.Core.Path.{subst}
use Rattle.program.proofs.put_head.Goals as goal

pub returns : goal.returns
returns c = subst (λ (s : List ℕ). Puts (line s) c.args.text.now c.put_line.new.text 0 c.put_line.result) (head_is c.args.code c.args.count _ _ c.high.ensures c.low.ensures) c.put_line.ensures
