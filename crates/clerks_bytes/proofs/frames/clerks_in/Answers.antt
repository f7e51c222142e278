use mathlib.Core.Path.{refl}
use Rattle.clerks_bytes.proofs.FrameLaws.{clerks_read}
use Rattle.clerks_bytes.proofs.frames.clerks_in.Goals as goal

pub returns : goal.returns
returns c = clerks_read c.args.frame.now _ c.event_in-event.ensures c.read_party-first.ensures c.read_party-second.ensures c.ends-ok.ensures refl refl
