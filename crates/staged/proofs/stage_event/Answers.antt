use Rattle.model.specs.State.{Staged}
use Rattle.records.proofs.Laws as records
use Rattle.staged.proofs.Laws as laws
use Rattle.staged.proofs.stage_event.Goals as goal

pub stage-requires-clause-short : goal.stage-requires-clause-short
stage-requires-clause-short c = records.event_long c.args.event.now c.requires.named.1

pub returns : goal.returns
returns c = λ e ok d. let k = laws.event_ok e ok c.args.event.now d in c.stage.ensures (Staged.Present e) k.0 k.1
