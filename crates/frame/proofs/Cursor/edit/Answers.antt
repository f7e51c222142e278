use Rattle.model.specs.Limits.{max_id, max_text}
use Rattle.frame.proofs.Inputs.{edit_fields}
use Rattle.frame.proofs.Cursor.edit.Goals as goal

pub returns : goal.returns
unfolding max_id max_text
returns c =
    edit_fields c.args.frame.now c.args.self c.text-first.result.next c.text-second.result.next c.operation-op.result.next c.role-who.result.next c.expiry-time.result.next
    _ _ _ _ _ c.text-first.ensures c.text-second.ensures c.operation-op.ensures c.role-who.ensures c.expiry-time.ensures
