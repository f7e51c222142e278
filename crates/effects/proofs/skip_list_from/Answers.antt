use Rattle.effects.proofs.Ends.{list_from_start, list_from_text}
use Rattle.effects.proofs.skip_list_from.Goals as goal

pub returns-then-case-eq0 : goal.returns-then-case-eq0
returns-then-case-eq0 c =
    let a = c.args in
    let b = c.byte-case in
    list_from_start a.s.now a.place b.result.next b.result.value b.ensures c.if-case-eq0.true

pub returns : goal.returns
returns c =
    let a = c.args in
    let b = c.byte-case in
    list_from_text a.s.now a.place b.result.next b.result.value b.ensures c.if-case-eq0.false c.skip_short_text.result c.skip_short_text.ensures
