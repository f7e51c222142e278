use Rattle.phrases.proofs.Printed.{plain_shows, shows_then, ready_start}
use Rattle.checklist.proofs.print.put_step.Goals as goal

pub returns : goal.returns
returns c = (shows_then (plain_shows c.part.ensures tt) (shows_then c.input-input.ensures (shows_then (plain_shows c.part-2.ensures tt) (shows_then c.answer-answer.ensures (shows_then c.put_effects-told.ensures (plain_shows c.byte.ensures tt)))))).shows (ready_start _)
