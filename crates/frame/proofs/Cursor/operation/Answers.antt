use Rattle.frame.proofs.Inputs.{op_create, op_update, op_delete}
use Rattle.frame.proofs.Cursor.operation.Goals as goal

pub returns-then-case-eq0 : goal.returns-then-case-eq0
returns-then-case-eq0 c = op_create c.args.frame.now c.args.self c.byte-case.result.next c.byte-case.result.value c.byte-case.ensures c.if-case-eq0.true c.event-read.result.next c.event-read.result.value c.event-read.ensures

pub returns-then-case-eq1 : goal.returns-then-case-eq1
returns-then-case-eq1 c = op_update c.args.frame.now c.args.self c.byte-case.result.next c.byte-case.result.value c.byte-case.ensures c.if-case-eq1.true c.fields-first.result.next c.fields-second.result.next c.fields-first.result.value c.fields-second.result.value c.fields-first.ensures c.fields-second.ensures

pub returns : goal.returns
returns c = op_delete c.args.frame.now c.args.self c.byte-case.result.next c.byte-case.result.value c.byte-case.ensures c.if-case-eq0.false c.if-case-eq1.false
