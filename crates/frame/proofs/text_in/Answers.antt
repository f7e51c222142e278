use Prim.Native.Nat.{◌+◌, ◌-◌, ◌≤◌}
use mathlib.Core.List.{[]}
use lib.ListN.{length}
use Rattle.format.specs.Format.{text}
use Rattle.frame.specs.Read.{start}
use Rattle.frame.proofs.Steps.{found_past, text_empty, text_long, text_short, text_bad, text_good}
use native.Mathlib.Omega.{arith}
use mathlib.Core.Path.{sym, ◌∙◌}
use borrow.Author.Rules.{rules}
use Rattle.frame.proofs.text_in.Goals as goal

pub returns-then-rest-eq0 : goal.returns-then-rest-eq0
returns-then-rest-eq0 c =
    let a = c.args in
    let l : length a.rest.now ≤ 0 = search rules in
    (found_past (text a.limit) [] a.rest.now start (text_empty a.limit) l).place

pub returns-then-limit-n : goal.returns-then-limit-n
returns-then-limit-n c =
    let a = c.args in
    let w = c.wide-n in
    (text_long a.limit a.rest.now w.result w.ensures (search rules) c.if-limit-n.true).place

pub returns-then-rest-n : goal.returns-then-rest-n
returns-then-rest-n c =
    let a = c.args in
    let w = c.wide-n in
    (text_short a.limit a.rest.now w.result w.ensures (search rules) c.if-limit-n.false c.if-rest-n.true).place

pub returns-then-is_text : goal.returns-then-is_text
returns-then-is_text c =
    let a = c.args in
    let w = c.wide-n in
    (text_good a.limit a.rest.now w.result w.ensures (search rules) c.if-limit-n.false c.if-rest-n.false
    (w.result + 1 - 1) (omega arith) (sym c.is_text.ensures ∙ c.if-is_text.true)).place

pub returns : goal.returns
returns c =
    let a = c.args in
    let w = c.wide-n in
    (text_bad a.limit a.rest.now w.result w.ensures (search rules) c.if-limit-n.false c.if-rest-n.false
    (w.result + 1 - 1) (omega arith) (sym c.is_text.ensures ∙ c.if-is_text.false)).place
