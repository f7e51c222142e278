use Rattle.phrases.proofs.Printed.{plain_shows}
use Rattle.clerks_explain.proofs.naming.who.Goals as goal

pub returns-in-1 : goal.returns-in-1
returns-in-1 c = plain_shows c.part.ensures tt

pub returns-in-2 : goal.returns-in-2
returns-in-2 c = plain_shows c.part-in-2.ensures tt

pub returns-in_default : goal.returns-in_default
returns-in_default c = plain_shows c.part-in_default.ensures tt
