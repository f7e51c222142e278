use Rattle.model.specs.Limits.{max_text}
use Rattle.frame.proofs.Inputs.{role_owner, role_attendee}
use Rattle.frame.proofs.Cursor.role.Goals as goal

pub returns-then-case-eq0 : goal.returns-then-case-eq0
returns-then-case-eq0 c = role_owner c.args.frame.now c.args.self c.byte-case.result.next c.byte-case.result.value c.byte-case.ensures c.if-case-eq0.true

pub returns : goal.returns
unfolding max_text
returns c = role_attendee c.args.frame.now c.args.self c.byte-case.result.next c.byte-case.result.value c.byte-case.ensures c.if-case-eq0.false c.text-read.result.next _ c.text-read.ensures
