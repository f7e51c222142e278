use Rattle.format.specs.Format.{text}
use Rattle.frame.proofs.Skips.{skips_none, skips_some}
use mathlib.Core.Path.{◌∙◌}
use Rattle.frame.proofs.Cursor.skip_option_text.Goals as goal

pub returns-then-some-eq0 : goal.returns-then-some-eq0
returns-then-some-eq0 c =
    let a = c.args in
    let b = c.byte-some in
    skips_none (text a.limit) a.frame.now a.self b.result.next b.result.value b.ensures c.if-some-eq0.true

pub returns : goal.returns
returns c =
    let a = c.args in
    let b = c.byte-some in
    c.skip_text.ensures ∙ skips_some (text a.limit) a.frame.now a.self b.result.next b.result.value b.ensures c.if-some-eq0.false
