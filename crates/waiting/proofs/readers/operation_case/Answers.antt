use Rattle.std.proofs.Common.{ap, arith}
use Rattle.state.specs.Values.{name_of}
use Rattle.waiting.proofs.Reading as reading
use Rattle.waiting.proofs.readers.operation_case.Goals as goal

pub returns-in_err-entry_byte : goal.returns-in_err-entry_byte
returns-in_err-entry_byte c = reading.case_none (name_of c.args.name.bytes) c.args.work.now _ c.args.j c.requires.named.ok c.in_err-entry_byte.ensures c.from_residual.ensures

pub returns-in-0 : goal.returns-in-0
returns-in-0 c = reading.case_some (name_of c.args.name.bytes) c.args.work.now c.in_ok-entry_byte.field-0 _ c.args.j c.requires.named.ok c.in_ok-entry_byte.ensures (ap reading.case_named c.in-0.is)

pub returns-in-1 : goal.returns-in-1
returns-in-1 c = reading.case_some (name_of c.args.name.bytes) c.args.work.now c.in_ok-entry_byte.field-0 _ c.args.j c.requires.named.ok c.in_ok-entry_byte.ensures (ap reading.case_named c.in-1.is)

pub returns-in_default : goal.returns-in_default
returns-in_default c = reading.case_some (name_of c.args.name.bytes) c.args.work.now c.in_ok-entry_byte.field-0 _ c.args.j c.requires.named.ok c.in_ok-entry_byte.ensures (reading.other_named _ (λ e. omega arith) (λ e. omega arith))
