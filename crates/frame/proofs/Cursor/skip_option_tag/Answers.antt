use Rattle.format.specs.Format.{number}
use Rattle.frame.proofs.Skips.{skips_none, skips_some}
use mathlib.Core.Path.{◌∙◌}
use Rattle.frame.proofs.Cursor.skip_option_tag.Goals as goal

pub returns-then-some-eq0 : goal.returns-then-some-eq0
returns-then-some-eq0 c =
    let a = c.args in
    let b = c.byte-some in
    skips_none (number 8) a.frame.now a.self b.result.next b.result.value b.ensures c.if-some-eq0.true

pub returns : goal.returns
returns c =
    let a = c.args in
    let b = c.byte-some in
    c.skip_tag.ensures ∙ skips_some (number 8) a.frame.now a.self b.result.next b.result.value b.ensures c.if-some-eq0.false
