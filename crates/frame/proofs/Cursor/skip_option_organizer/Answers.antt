use Rattle.model.specs.Formats.{organizer_f}
use Rattle.frame.proofs.Skips.{skips_none, skips_some}
use Rattle.frame.proofs.Chains.{organizer_by}
use mathlib.Core.Path.{◌∙◌}
use Rattle.frame.proofs.Cursor.skip_option_organizer.Goals as goal

pub returns-then-some-eq0 : goal.returns-then-some-eq0
returns-then-some-eq0 c =
    let a = c.args in
    let b = c.byte-some in
    skips_none organizer_f a.frame.now a.self b.result.next b.result.value b.ensures c.if-some-eq0.true

pub returns : goal.returns
returns c =
    let a = c.args in
    let b = c.byte-some in
    organizer_by a.frame.now b.result.next c.skip_short_text.ensures c.skip_option_short_text.ensures
    ∙ skips_some organizer_f a.frame.now a.self b.result.next b.result.value b.ensures c.if-some-eq0.false
