use Rattle.model.specs.Formats.{role_f}
use Rattle.frame.specs.Meaning.{text_in, meant_role}
use Rattle.frame.specs.declared.Role.{Role}
use mathlib.Core.Path.{subst}
use Rattle.queues.proofs.Writers as writers
use Rattle.queues.proofs.writing.put_role.Goals as goal

pub returns-in-Owner : goal.returns-in-Owner
returns-in-Owner c = writers.role_owner c.args.frame.now c.requires.0 c.requires.1 c.in-Owner.is c.start.ensures c.byte-end.ensures

pub text-end-requires : goal.text-end-requires
text-end-requires c = writers.short_id _ _ c.bytes-text.ensures.result_value (writers.attendee_ok (text_in c.args.frame.now c.in-Attendee.address) (subst (λ (y : Role). role_f.Ok (meant_role c.args.frame.now y)) c.in-Attendee.is c.requires.1))

pub returns-in-Attendee : goal.returns-in-Attendee
returns-in-Attendee c = writers.role_attendee c.args.frame.now c.in-Attendee.address c.requires.0 c.requires.1 c.in-Attendee.is c.bytes-text.ensures.result_value c.start-in-Attendee.ensures c.byte.ensures c.text-end.ensures
