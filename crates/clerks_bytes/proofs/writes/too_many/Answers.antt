use Rattle.clerks_bytes.proofs.WriteLaws.{any_first, any_second}
use Rattle.clerks_bytes.proofs.writes.too_many.Goals as goal

pub returns-then-exceeds : goal.returns-then-exceeds
returns-then-exceeds c = any_first c.args.frame.now c.args.c c.exceeds.ensures c.if-exceeds.true

pub returns : goal.returns
returns c = any_second c.args.frame.now c.args.c c.exceeds.ensures c.if-exceeds.false c.exceeds-2.ensures
