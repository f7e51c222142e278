use Rattle.phrases.proofs.Printed.{plain_shows}
use Rattle.phrases.proofs.saying.comma.Goals as goal

pub returns-in_default : goal.returns-in_default
returns-in_default c = plain_shows c.part.ensures tt
