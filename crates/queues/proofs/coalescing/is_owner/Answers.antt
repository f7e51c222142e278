use Rattle.queues.proofs.Writers as writers
use Rattle.queues.proofs.coalescing.is_owner.Goals as goal

pub returns-in-Owner : goal.returns-in-Owner
returns-in-Owner c = writers.owner_yes c.in-Owner.is

pub returns-in-Attendee : goal.returns-in-Attendee
returns-in-Attendee c = writers.owner_no c.in-Attendee._address c.in-Attendee.is
