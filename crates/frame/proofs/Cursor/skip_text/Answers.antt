use native.Mathlib.Nat.{le_of_lt}
use mathlib.Core.List.{[]}
use Rattle.format.specs.Format.{text}
use Rattle.format.proofs.FormatLaws.{text_law}
use Rattle.frame.proofs.Steps.{found_stopped, found_past, text_empty, part_fits, part_shift}
use mathlib.Core.Path.{◌∙◌}
use borrow.Author.Rules.{rules}
use Rattle.frame.proofs.Cursor.skip_text.Goals as goal

pub returns-then-not-self : goal.returns-then-not-self
returns-then-not-self c =
    let a = c.args in
    (found_stopped (text a.limit) [] a.frame.now a.self c.if-not-self.true).place

pub returns-then-frame-at : goal.returns-then-frame-at
returns-then-frame-at c =
    let a = c.args in
    (found_past (text a.limit) [] a.frame.now a.self (text_empty a.limit) (le_of_lt c.if-frame-at.true)).place

pub shifted-requires : goal.shifted-requires
shifted-requires c =
    let a = c.args in
    part_fits (text_law a.limit) a.frame.now a.self c.if-frame-at.false c.text_in.result c.text_in.ensures (search rules)

pub returns : goal.returns
returns c =
    let a = c.args in
    c.shifted.ensures ∙ part_shift (text_law a.limit) a.frame.now a.self c.if-frame-at.false c.text_in.result c.text_in.ensures c.if-not-self.false
