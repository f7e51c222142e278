use Rattle.phrases.proofs.Printed.{ready_part}
use Rattle.checklist.proofs.print.all.Goals as goal

pub print-requires : goal.print-requires
print-requires c = ready_part c.requires c.if-pen.true c.part.ensures
