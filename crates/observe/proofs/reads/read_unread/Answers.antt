use Rattle.observe.proofs.Reading as reading
use Rattle.observe.proofs.reads.read_unread.Goals as goal

pub read_each-requires : goal.read_each-requires
read_each-requires c = record { has_state = c.requires; named = reading.unread_named c.args.work.now c.unread-names.result c.requires c.unread-names.ensures }

pub returns : goal.returns
returns c = reading.reads_unread c.unread-names.result c.requires c.unread-names.ensures c.read_each.ensures
