use Rattle.spans.proofs.Laws.{tail_mid}
use Rattle.clerks_bytes.proofs.FrameLaws.{from_past}
use Rattle.clerks_bytes.proofs.frames.from.Goals as goal

pub returns-then-frame-at : goal.returns-then-frame-at
returns-then-frame-at c = from_past _ _ c.if-frame-at.true

pub returns : goal.returns
returns c = tail_mid c.args.frame.now c.args.at
