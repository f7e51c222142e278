use Rattle.phrases.proofs.Printed.{plain_shows, shows_then, shows_decimal, ready_start}
use Rattle.explain.proofs.said.head.Goals as goal

pub returns : goal.returns
returns c = (shows_then (plain_shows c.part.ensures tt) (shows_then (shows_decimal c.decimal-counted.ensures) (shows_then (plain_shows c.part-2.ensures tt) (shows_then (plain_shows c.part-3.ensures c.requires) (plain_shows c.part-4.ensures tt))))).shows (ready_start _)
