use Rattle.std.proofs.Common.{ap, sym, ◌∙◌}
use Rattle.reader.specs.Left.{left}
use Rattle.regions.proofs.Stamps as stamps
use Rattle.regions.proofs.walks.skip_stamp.Goals as goal

pub returns-in_err-bits : goal.returns-in_err-bits
returns-in_err-bits c = ap left c.from_residual.ensures ∙ sym (stamps.stamp_none _ (sym c.in_err-bits.ensures))

pub returns-then-is_time : goal.returns-then-is_time
returns-then-is_time c = sym (stamps.stamp_is _ _ _ (sym c.in_ok-bits.ensures) c.cast_signed.ensures (record { sfits = c.cast_signed.type_inv }) (sym c.is_time.ensures ∙ c.if-is_time.true))

pub returns-else-is_time : goal.returns-else-is_time
returns-else-is_time c = sym (stamps.stamp_is_not _ _ _ (sym c.in_ok-bits.ensures) c.cast_signed.ensures (record { sfits = c.cast_signed.type_inv }) (sym c.is_time.ensures ∙ c.if-is_time.false))
