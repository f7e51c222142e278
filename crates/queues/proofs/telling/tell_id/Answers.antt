use Rattle.state.specs.Values.{name_of}
use Rattle.queues.specs.Heads.{rejection_of}
use Rattle.effects.specs.Told.{meant_refusal}
use Rattle.frame.specs.Meaning.{meant_outcome}
use Rattle.model.specs.Sync.{describe}
use Rattle.model.specs.Calls.{Rejection}
use Rattle.queues.proofs.Notices as notices
use Rattle.queues.proofs.telling.tell_id.Goals as goal

pub returns-in-Applied : goal.returns-in-Applied
returns-in-Applied c = notices.id_ends c.args.j c.args.k (name_of c.args.name.bytes) (rejection_of c.args.frame.now) c.in-Applied.is (notices.id_applied c.args.j c.args.k (name_of c.args.name.bytes) c.entry_id-id.ensures c.tell_applied.ensures)

pub returns-in-Rejected : goal.returns-in-Rejected
returns-in-Rejected c = notices.id_ends c.args.j c.args.k (name_of c.args.name.bytes) (rejection_of c.args.frame.now) c.in-Rejected.is (notices.id_rejected c.args.j c.args.k (name_of c.args.name.bytes) c.entry_id-id.ensures (meant_refusal c.in-Rejected.refusal) c.tell_rejected.ensures)

pub returns-in-By : goal.returns-in-By
returns-in-By c = notices.id_ends c.args.j c.args.k (name_of c.args.name.bytes) (rejection_of c.args.frame.now) c.in-By.is (notices.id_rejected c.args.j c.args.k (name_of c.args.name.bytes) c.entry_id-id.ensures (Rejection.Provider (describe (meant_outcome c.args.frame.now c.in-By.outcome))) c.tell_rejected_by.ensures)
