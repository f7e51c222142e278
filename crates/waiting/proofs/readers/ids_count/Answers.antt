use Rattle.std.specs.Prelude.{None}
use Rattle.state.specs.Values.{name_of}
use Rattle.waiting.proofs.Reading as reading
use Rattle.waiting.proofs.readers.ids_count.Goals as goal

pub returns-in-Some : goal.returns-in-Some
returns-in-Some c = reading.number_some (name_of c.args.name.bytes) c.args.work.now c.in-Some.absorbed c.from.result c.args.j c.requires.named.ok c.in-Some.ensures c.from.ensures

pub returns-in-None : goal.returns-in-None
returns-in-None c = reading.number_read (name_of c.args.name.bytes) c.args.work.now None c.args.j c.requires.named.ok c.in-None.ensures
