use Rattle.observe.proofs.Parts as parts
use Rattle.observe.proofs.observations.event_part.Goals as goal

pub returns : goal.returns
returns c = parts.event_bytes c.args.frame.now c.args.at c.event-read.result.next c.event-read.result.value _ c.event-read.ensures c.bytes.ensures c.requires
