use borrow.Author.Rules.{rules}
use lib.Dec.{lit<}
use lib.IntN.{pos}
use mir.Syntax.{w64}
use mir.Val.{SFits, of_z, to_z}
use mir.Facts.{to_z-of_z}
use Rattle.format.specs.Format.{stamp}
use Rattle.frame.proofs.Means.{means_found}
use Rattle.frame.proofs.Skips.{found_below}
use Rattle.frame.proofs.Inputs.{input_sync, input_edit, input_outcome, input_tick, input_resume, last5}
use mathlib.Core.Path.{◌≡◌}
use Rattle.frame.proofs.Cursor.input.Goals as goal

pub returns-then-k-eq0 : goal.returns-then-k-eq0
returns-then-k-eq0 c =
    let a = c.args in
    let b = c.byte-case in
    input_sync a.frame.now a.self b.result.next b.result.value b.ensures c.if-k-eq0.true

pub returns-then-k-eq1 : goal.returns-then-k-eq1
returns-then-k-eq1 c =
    let a = c.args in
    let b = c.byte-case in
    let e = c.edit-e in
    input_edit a.frame.now a.self b.result.next b.result.value b.ensures c.if-k-eq1.true e.result.next _ e.ensures

pub returns-then-k-eq2 : goal.returns-then-k-eq2
returns-then-k-eq2 c =
    let a = c.args in
    let b = c.byte-case in
    let n = c.number-n in
    let o = c.outcome-o in
    input_outcome a.frame.now a.self b.result.next b.result.value b.ensures c.if-k-eq2.true n.result.next o.result.next n.result.value _ n.ensures o.ensures

pub returns-then-k-eq3 : goal.returns-then-k-eq3
returns-then-k-eq3 c =
    let a = c.args in
    let b = c.byte-case in
    let t = c.stamp-t in
    let f : SFits w64 t.result.value = search rules in
    let e : to_z w64 (of_z w64 t.result.value) ≡ t.result.value = to_z-of_z {w = w64} f in
    rw e (input_tick a.frame.now a.self b.result.next b.result.value b.ensures c.if-k-eq3.true t.result.next t.result.value (means_found stamp (pos 0) a.frame.now b.result.next t.result.next t.result.value t.ensures))

pub returns : goal.returns
returns c =
    let a = c.args in
    let b = c.byte-case in
    input_resume a.frame.now a.self b.result.next b.result.value b.ensures (last5 b.result.value (found_below 5 a.frame.now a.self b.result.next b.result.value b.ensures (lit< tt)) c.if-k-eq0.false c.if-k-eq1.false c.if-k-eq2.false c.if-k-eq3.false)
