use Rattle.phrases.proofs.Printed.{plain_shows, shows_then}
use Rattle.phrases.proofs.writing.quoted.Goals as goal

pub returns : goal.returns
returns c = shows_then (plain_shows c.byte-open.ensures tt) (shows_then c.shown-said.ensures (plain_shows c.byte.ensures tt))
