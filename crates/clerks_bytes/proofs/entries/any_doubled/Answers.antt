use Rattle.clerks_bytes.proofs.EntryLaws.{event_twice, one_twice, two_twice, any_event, any_one, any_two}
use Rattle.clerks_bytes.proofs.entries.any_doubled.Goals as goal

pub returns-then-doubled : goal.returns-then-doubled
returns-then-doubled c = λ v H. any_event v (event_twice H c.fields_of.ensures c.list_of.ensures c.doubled.ensures) c.if-doubled.true

pub returns-then-doubled-2 : goal.returns-then-doubled-2
returns-then-doubled-2 c = λ v H. any_one v (event_twice H c.fields_of.ensures c.list_of.ensures c.doubled.ensures) c.if-doubled.false (one_twice H c.from.ensures c.list_of-2.ensures c.doubled-2.ensures) c.if-doubled-2.true

pub returns : goal.returns
returns c = λ v H. any_two v (event_twice H c.fields_of.ensures c.list_of.ensures c.doubled.ensures) c.if-doubled.false (one_twice H c.from.ensures c.list_of-2.ensures c.doubled-2.ensures) c.if-doubled-2.false (two_twice H c.from-2.ensures c.list_of-3.ensures c.doubled-3.ensures)
