use Rattle.program.proofs.Laws.{answers}
use borrow.Author.Rules.{rules}
use Rattle.program.proofs.put_answer.Goals as goal

pub returns : goal.returns
returns c = λ E. answers _ _ _ _ _ _ _ _ E (c.put_effects-listed.ensures E) c.put_head.ensures (search rules) (search rules)
