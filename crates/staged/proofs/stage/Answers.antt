use Rattle.state.proofs.Columns as columns
use Rattle.staged.proofs.Laws as laws
use Rattle.staged.proofs.stage.Goals as goal

pub returns-then-not-is_open : goal.returns-then-not-is_open
returns-then-not-is_open c = λ v ok e. laws.stage_closed _ v c.args.work.now c.is_open.ensures c.if-not-is_open.true

pub insert-requires-clause-lent : goal.insert-requires-clause-lent
insert-requires-clause-lent c = columns.has_lent laws.staged_column c.requires.has_state

pub returns : goal.returns
returns c = laws.case_tries c.args.name.bytes c.args.event.now c.slot-key.result c.slot-slot.result c.args.work.now c.insert.new.work c.args.case _ c.requires.named c.is_open.ensures c.if-not-is_open.false c.slot-key.ensures c.slot-slot.ensures c.insert.ensures
