use mathlib.Core.Path.{◌∙◌}
use Rattle.model.specs.Formats.{attendee_f}
use Rattle.frame.proofs.Skips.{skips_none, skips_some}
use Rattle.effects.proofs.skip_option_attendee.Goals as goal

pub returns-then-some-eq0 : goal.returns-then-some-eq0
returns-then-some-eq0 c =
    let a = c.args in
    let b = c.byte-some in
    skips_none attendee_f a.s.now a.place b.result.next b.result.value b.ensures c.if-some-eq0.true

pub returns : goal.returns
returns c =
    let a = c.args in
    let b = c.byte-some in
    c.skip_attendee.ensures ∙ skips_some attendee_f a.s.now a.place b.result.next b.result.value b.ensures c.if-some-eq0.false
