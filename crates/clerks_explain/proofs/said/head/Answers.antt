use Rattle.phrases.proofs.Printed.{plain_shows, shows_then, ready_start}
use Rattle.clerks_explain.proofs.said.head.Goals as goal

pub returns : goal.returns
returns c = (shows_then (plain_shows c.part.ensures c.requires.plain_what) (plain_shows c.part-2.ensures c.requires.plain_then)).shows (ready_start _)
