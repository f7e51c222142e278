use Rattle.phrases.proofs.Printed.{plain_shows, shows_then, ready_start}
use Rattle.checklist.proofs.print.put_line.Goals as goal

pub returns : goal.returns
returns c = (shows_then (plain_shows c.part.ensures c.requires) (shows_then c.shown-said.ensures (plain_shows c.byte.ensures tt))).shows (ready_start _)
