use Rattle.model.proofs.FormatsLaws.{input_f_law}
use Rattle.frame.specs.Meaning.{reading_of}
use Rattle.frame.proofs.Whole.{whole_none, whole_more, whole_all}
use mathlib.Core.Path.{ap}
use Rattle.frame.proofs.parse.Goals as goal

pub returns-then-not-next : goal.returns-then-not-next
returns-then-not-next c =
    let a = c.args in
    let r = c.input-r in
    ap reading_of (whole_none input_f_law a.frame.now r.result.next _ r.ensures c.if-not-next.true)

pub returns-then-end-frame : goal.returns-then-end-frame
returns-then-end-frame c =
    let a = c.args in
    let r = c.input-r in
    ap reading_of (whole_more input_f_law a.frame.now r.result.next _ r.ensures c.if-not-next.false c.if-end-frame.true)

pub returns : goal.returns
returns c =
    let a = c.args in
    let r = c.input-r in
    ap reading_of (whole_all input_f_law a.frame.now r.result.next _ r.ensures c.if-not-next.false c.if-end-frame.false)
