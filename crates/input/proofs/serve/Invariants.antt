use Rattle.std.proofs.Common.{◌≡◌, length}
use Rattle.input.proofs.Serving.{Serves}
use Rattle.input.proofs.serve.Given as goal

abbrev pub invariant-loop : goal.invariant-loop
invariant-loop g l = (length l.line ≡ 16385) × Serves g.A.Answers.after_line 16385 (g.A.Answers.held l.initial.desk) (g.A.Answers.held l.desk) l.lines
