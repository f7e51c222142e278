use Rattle.clerks_bytes.proofs.FrameLaws.{ends_stopped, ends_there}
use Rattle.clerks_bytes.proofs.frames.ends.Goals as goal

pub returns-then-not-c : goal.returns-then-not-c
returns-then-not-c c = ends_stopped _ c.args.c c.if-not-c.true

pub returns : goal.returns
returns c = ends_there _ c.args.c c.if-not-c.false
