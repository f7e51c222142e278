use Rattle.effects.proofs.Ends.{rejection_reason, rejection_case}
use Rattle.effects.proofs.skip_rejection.Goals as goal

pub returns-then-case-eq3 : goal.returns-then-case-eq3
returns-then-case-eq3 c =
    let a = c.args in
    let b = c.byte-case in
    rejection_reason a.s.now a.place b.result.next b.result.value b.ensures c.if-case-eq3.true c.skip_reason.result c.skip_reason.ensures

pub returns : goal.returns
returns c =
    let a = c.args in
    let b = c.byte-case in
    rejection_case a.s.now a.place b.result.next b.result.value b.ensures c.if-case-eq3.false
