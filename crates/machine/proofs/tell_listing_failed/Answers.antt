use Rattle.machine.proofs.Steps as steps
use Rattle.machine.proofs.tell_listing_failed.Goals as goal

pub returns : goal.returns
returns c = steps.told c.pen_of.ensures c.listing_failed_by-pen.ensures c.sent.ensures
