use Rattle.state.specs.Values.{name_of}
use Rattle.queues.proofs.Heads as heads
use Rattle.queues.proofs.reading.read_for_edit.Goals as goal

pub returns-then-looks_up : goal.returns-then-looks_up
returns-then-looks_up c = heads.looked_up (name_of c.args.name.bytes) c.looks_up.ensures c.if-looks_up.true c.request_lookup.ensures

pub returns : goal.returns
returns c = heads.read_plain (name_of c.args.name.bytes) c.looks_up.ensures c.if-looks_up.false c.request_read.ensures
