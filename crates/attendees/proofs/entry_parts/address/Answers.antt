use Rattle.attendees.proofs.Laws as laws
use Rattle.attendees.proofs.entry_parts.address.Goals as goal

pub returns : goal.returns
returns c = laws.address_is c.args.entry.now _ c.text_part.ensures
