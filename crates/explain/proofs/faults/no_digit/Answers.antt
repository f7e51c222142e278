use Rattle.phrases.proofs.Printed.{plain_shows, shows_then, shows_decimal}
use Rattle.explain.proofs.faults.no_digit.Goals as goal

pub returns : goal.returns
returns c = shows_then (plain_shows c.part.ensures tt) (shows_then (shows_decimal c.decimal-column.ensures) (shows_then (plain_shows c.part-2.ensures tt) (shows_then c.quoted-shown.ensures (plain_shows c.part-3.ensures tt))))
