use mir.Syntax.{w64}
use mir.Val.{of_z, to_z}
use mir.Facts.{to_z-of_z}
use Rattle.frame.proofs.Times.{stamp_none, stamp_good, stamp_bad}
use mathlib.Core.Path.{◌≡◌, sym, ◌∙◌}
use Rattle.frame.proofs.Cursor.stamp.Goals as goal

pub returns-then-not-next : goal.returns-then-not-next
returns-then-not-next c =
    let a = c.args in
    let n = c.number-r in
    stamp_none a.frame.now a.self n.result.next n.result.value n.ensures c.if-not-next.true

pub returns-then-is_time : goal.returns-then-is_time
returns-then-is_time c =
    let a = c.args in
    let n = c.number-r in
    let z = c.signed-v in
    let e : to_z w64 (of_z w64 z.result) ≡ z.result = to_z-of_z {w = w64} (record { sfits = z.type_inv }) in
    stamp_good a.frame.now a.self n.result.next n.result.value n.ensures c.if-not-next.false (to_z w64 (of_z w64 z.result)) (e ∙ z.ensures) (sym c.is_time.ensures ∙ c.if-is_time.true)

pub returns : goal.returns
returns c =
    let a = c.args in
    let n = c.number-r in
    let z = c.signed-v in
    let e : to_z w64 (of_z w64 z.result) ≡ z.result = to_z-of_z {w = w64} (record { sfits = z.type_inv }) in
    stamp_bad a.frame.now a.self n.result.next n.result.value n.ensures c.if-not-next.false (to_z w64 (of_z w64 z.result)) (e ∙ z.ensures) (sym c.is_time.ensures ∙ c.if-is_time.false)
