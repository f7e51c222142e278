use Rattle.effects.proofs.Ends.{effect_request, effect_notify}
use Rattle.effects.proofs.skip_effect.Goals as goal

pub returns-then-case-eq0 : goal.returns-then-case-eq0
returns-then-case-eq0 c =
    let a = c.args in
    let b = c.byte-case in
    effect_request a.s.now a.place b.result.next b.result.value b.ensures c.if-case-eq0.true c.number-id.ensures.place c.skip_request.ensures

pub returns : goal.returns
returns c =
    let a = c.args in
    let b = c.byte-case in
    effect_notify a.s.now a.place b.result.next b.result.value b.ensures c.if-case-eq0.false c.skip_notice.result c.skip_notice.ensures
