use borrow.Author.Rules.{rules}
use lib.IntN.{pos}
use mir.Syntax.{w64}
use mir.Val.{SFits, of_z, to_z}
use mir.Facts.{to_z-of_z}
use Rattle.frame.proofs.Means.{means_found}
use Rattle.frame.proofs.Inputs.{option_none, option_some}
use Rattle.format.specs.Format.{stamp}
use mathlib.Core.Path.{◌≡◌}
use Rattle.frame.proofs.Cursor.expiry.Goals as goal

pub returns-then-some-eq0 : goal.returns-then-some-eq0
returns-then-some-eq0 c =
    let a = c.args in
    let b = c.byte-some in
    option_none stamp a.frame.now a.self b.result.next b.result.value b.ensures c.if-some-eq0.true

pub returns : goal.returns
returns c =
    let a = c.args in
    let b = c.byte-some in
    let t = c.stamp-time in
    let f : SFits w64 t.result.value = search rules in
    let e : to_z w64 (of_z w64 t.result.value) ≡ t.result.value = to_z-of_z {w = w64} f in
    rw e (option_some stamp a.frame.now a.self b.result.next b.result.value b.ensures c.if-some-eq0.false t.result.next t.result.value
    (means_found stamp (pos 0) a.frame.now b.result.next t.result.next t.result.value t.ensures))
