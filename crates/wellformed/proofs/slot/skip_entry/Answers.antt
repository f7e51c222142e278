use Rattle.std.proofs.Common.{ap, sym, ◌∙◌}
use Rattle.reader.specs.Left.{left}
use Rattle.wellformed.specs.Entries.{entry_f}
use Rattle.wellformed.proofs.FieldLaws.{goes_on, ends_here}
use Rattle.wellformed.proofs.slot.skip_entry.Goals as goal

pub returns-in_err-next : goal.returns-in_err-next
unfolding entry_f
returns-in_err-next c = ap left c.from_residual.ensures ∙ sym (ends_here _ _ _ c.resource.ensures c.in_err-next.was)

pub returns-in_err-next-2 : goal.returns-in_err-next-2
unfolding entry_f
returns-in_err-next-2 c = ap left c.from_residual-in_err-next-2.ensures ∙ sym (goes_on _ _ _ c.resource.ensures c.in_ok-next.was ∙ ends_here _ _ _ c.edit_id.ensures c.in_err-next-2.was)

pub returns-in_err-next-3 : goal.returns-in_err-next-3
unfolding entry_f
returns-in_err-next-3 c = ap left c.from_residual-in_err-next-3.ensures ∙ sym (goes_on _ _ _ c.resource.ensures c.in_ok-next.was ∙ goes_on _ _ _ c.edit_id.ensures c.in_ok-next-2.was ∙ ends_here _ _ _ c.operation.ensures c.in_err-next-3.was)

pub returns-in_err-next-4 : goal.returns-in_err-next-4
unfolding entry_f
returns-in_err-next-4 c = ap left c.from_residual-in_err-next-4.ensures ∙ sym (goes_on _ _ _ c.resource.ensures c.in_ok-next.was ∙ goes_on _ _ _ c.edit_id.ensures c.in_ok-next-2.was ∙ goes_on _ _ _ c.operation.ensures c.in_ok-next-3.was ∙ ends_here _ _ _ c.role.ensures c.in_err-next-4.was)

pub returns-in_err-next-5 : goal.returns-in_err-next-5
unfolding entry_f
returns-in_err-next-5 c = ap left c.from_residual-in_err-next-5.ensures ∙ sym (goes_on _ _ _ c.resource.ensures c.in_ok-next.was ∙ goes_on _ _ _ c.edit_id.ensures c.in_ok-next-2.was ∙ goes_on _ _ _ c.operation.ensures c.in_ok-next-3.was ∙ goes_on _ _ _ c.role.ensures c.in_ok-next-4.was ∙ ends_here _ _ _ c.expiry.ensures c.in_err-next-5.was)

pub returns-in_err-next-6 : goal.returns-in_err-next-6
unfolding entry_f
returns-in_err-next-6 c = ap left c.from_residual-in_err-next-6.ensures ∙ sym (goes_on _ _ _ c.resource.ensures c.in_ok-next.was ∙ goes_on _ _ _ c.edit_id.ensures c.in_ok-next-2.was ∙ goes_on _ _ _ c.operation.ensures c.in_ok-next-3.was ∙ goes_on _ _ _ c.role.ensures c.in_ok-next-4.was ∙ goes_on _ _ _ c.expiry.ensures c.in_ok-next-5.was ∙ ends_here _ _ _ c.conflicts.ensures c.in_err-next-6.was)

pub returns-in_err-next-7 : goal.returns-in_err-next-7
unfolding entry_f
returns-in_err-next-7 c = ap left c.from_residual-in_err-next-7.ensures ∙ sym (goes_on _ _ _ c.resource.ensures c.in_ok-next.was ∙ goes_on _ _ _ c.edit_id.ensures c.in_ok-next-2.was ∙ goes_on _ _ _ c.operation.ensures c.in_ok-next-3.was ∙ goes_on _ _ _ c.role.ensures c.in_ok-next-4.was ∙ goes_on _ _ _ c.expiry.ensures c.in_ok-next-5.was ∙ goes_on _ _ _ c.conflicts.ensures c.in_ok-next-6.was ∙ ends_here _ _ _ c.refused.ensures c.in_err-next-7.was)

pub returns-in_err-next-8 : goal.returns-in_err-next-8
unfolding entry_f
returns-in_err-next-8 c = ap left c.from_residual-in_err-next-8.ensures ∙ sym (goes_on _ _ _ c.resource.ensures c.in_ok-next.was ∙ goes_on _ _ _ c.edit_id.ensures c.in_ok-next-2.was ∙ goes_on _ _ _ c.operation.ensures c.in_ok-next-3.was ∙ goes_on _ _ _ c.role.ensures c.in_ok-next-4.was ∙ goes_on _ _ _ c.expiry.ensures c.in_ok-next-5.was ∙ goes_on _ _ _ c.conflicts.ensures c.in_ok-next-6.was ∙ goes_on _ _ _ c.refused.ensures c.in_ok-next-7.was ∙ ends_here _ _ _ c.collided.ensures c.in_err-next-8.was)

pub returns : goal.returns
unfolding entry_f
returns c = c.absorbed.ensures ∙ sym (goes_on _ _ _ c.resource.ensures c.in_ok-next.was ∙ goes_on _ _ _ c.edit_id.ensures c.in_ok-next-2.was ∙ goes_on _ _ _ c.operation.ensures c.in_ok-next-3.was ∙ goes_on _ _ _ c.role.ensures c.in_ok-next-4.was ∙ goes_on _ _ _ c.expiry.ensures c.in_ok-next-5.was ∙ goes_on _ _ _ c.conflicts.ensures c.in_ok-next-6.was ∙ goes_on _ _ _ c.refused.ensures c.in_ok-next-7.was ∙ goes_on _ _ _ c.collided.ensures c.in_ok-next-8.was)
