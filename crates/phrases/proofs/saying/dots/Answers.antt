use Rattle.phrases.proofs.Printed.{plain_shows}
use Rattle.phrases.proofs.saying.dots.Goals as goal

pub returns-in-Some-eq62 : goal.returns-in-Some-eq62
returns-in-Some-eq62 c = plain_shows c.part.ensures tt

pub returns-in_default : goal.returns-in_default
returns-in_default c = plain_shows c.part-in_default.ensures tt
