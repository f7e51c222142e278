use Rattle.state.proofs.Columns as columns
use Rattle.records.proofs.Laws as laws
use Rattle.records.proofs.remove_record.Goals as goal

pub remove-requires-clause-lent : goal.remove-requires-clause-lent
remove-requires-clause-lent c = columns.has_lent laws.record_column c.requires.has_state

pub returns : goal.returns
returns c = laws.record_removed c.args.name.bytes c.args.work.now c.remove.new.work c.requires.named c.remove.ensures
