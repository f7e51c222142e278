use Rattle.std.proofs.Common.{rules}
use Rattle.input.proofs.Serving.{serves_end, serves_line}
use Rattle.input.proofs.serve.Goals as goal

pub returns-then-not-answer : goal.returns-then-not-answer
returns-then-not-answer g c = serves_end _ (serves_line _ _ _ _ _ _ c.next.new.self _ c.loop.invariant.1 (search rules) c.in-Some.ensures c.answer.ensures)

pub loop-preserved : goal.loop-preserved
loop-preserved g c = (search rules, serves_line _ _ _ _ _ _ _ _ c.loop.invariant.1 (search rules) c.in-Some.ensures c.answer.ensures)
