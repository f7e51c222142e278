use mathlib.Core.Path.{sym}
use lib.Seq.{length-take-le}
use Rattle.clerks.proofs.Laws.{prints_line, prints_none}
use borrow.Author.Rules.{rules}
use Rattle.clerks.proofs.answer.Goals as goal

pub returns-in-Some : goal.returns-in-Some
returns-in-Some c = prints_line c.only.ensures (search rules) _ c.in-Some.is c.answer_line.ensures

pub returns-in-None : goal.returns-in-None
returns-in-None c = prints_none c.only.ensures (search rules) c.in-None.is c.put_number.ensures
