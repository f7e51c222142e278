use Rattle.attendees.proofs.Laws as laws
use Rattle.attendees.proofs.entry_parts.entry_count.Goals as goal

pub returns : goal.returns
returns c = laws.count_is c.args.list.now _ c.count-c.ensures.is
