use Rattle.phrases.proofs.Printed.{plain_shows, digits_shown, shows_wrote, shows_then}
use Rattle.pens.proofs.Laws.{wrote_as}
use borrow.Author.Rules.{rules}
use Rattle.phrases.proofs.writing.by_number.Goals as goal

pub returns : goal.returns
returns c = shows_then (plain_shows c.part.ensures tt) (shows_wrote (wrote_as c.part-2.ensures c.hex-k.ensures.digits) (digits_shown 16 c.hex-k.result _ (search rules) (search rules)))
