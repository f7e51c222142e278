use Rattle.state.proofs.Columns as columns
use Rattle.records.proofs.Laws as laws
use Rattle.records.proofs.find_record.Goals as goal

pub find-requires-clause-lent : goal.find-requires-clause-lent
find-requires-clause-lent c = columns.has_lent laws.record_column c.requires.has_state

pub returns : goal.returns
returns c = rw c.ok.ensures.value (laws.finds c.args.name.bytes c.args.work.now c.find.result c.requires.named c.find.ensures)
