use Rattle.state.proofs.Columns as columns
use Rattle.records.proofs.Laws as laws
use Rattle.records.proofs.put_record_at.Goals as goal

pub insert-requires-clause-lent : goal.insert-requires-clause-lent
insert-requires-clause-lent c = columns.has_lent laws.record_column c.requires.has_state

pub returns : goal.returns
returns c = laws.tries_at c.args.name.bytes c.slot-slot.result c.args.work.now c.insert.new.work c.args.at _ c.requires.named.0 c.requires.named.1 c.slot-slot.ensures c.insert.ensures
