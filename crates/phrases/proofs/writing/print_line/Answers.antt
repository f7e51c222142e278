use Rattle.phrases.proofs.Printed.{plain_shown, plain_shows, ready_part}
use Rattle.phrases.proofs.writing.print_line.Goals as goal

pub print-requires : goal.print-requires
print-requires c = ready_part ((plain_shows c.byte-end.ensures tt).shows c.requires) c.if-end.true c.part.ensures

pub print-requires-else-end : goal.print-requires-else-end
print-requires-else-end c = plain_shown _ tt
