use native.Mathlib.Nat.{le_of_lt}
use mathlib.Core.Path.{sym, ap, ◌∙◌}
use Rattle.model.specs.Formats.{change_f}
use Rattle.model.proofs.FormatsLaws.{change_f_law}
use Rattle.frame.specs.Meaning.{meant_change}
use Rattle.frame.specs.declared.Cursor.{Cursor}
use Rattle.frame.proofs.Chains.{change_empty}
use Rattle.frame.proofs.Means.{means_stopped, means_rest}
use Rattle.frame.proofs.Steps.{skips_stopped, skips_past, part_fits}
use borrow.Author.Rules.{rules}
use Rattle.frame.proofs.Cursor.change.Goals as goal

pub returns-then-not-self : goal.returns-then-not-self
returns-then-not-self c =
    let a = c.args in
    means_stopped change_f a.frame.now a.self c.no_change.result.next _ (c.no_change.ensures ∙ skips_stopped change_f a.frame.now a.self c.if-not-self.true) (ap (λ (k : Cursor). k.ok) c.no_change.ensures)

pub returns-then-frame-at : goal.returns-then-frame-at
returns-then-frame-at c =
    let a = c.args in
    means_stopped change_f a.frame.now a.self c.no_change-then-frame-at.result.next _ (c.no_change-then-frame-at.ensures ∙ sym (skips_past change_f_law a.frame.now change_empty a.self (le_of_lt c.if-frame-at.true))) (ap (λ (k : Cursor). k.ok) c.no_change-then-frame-at.ensures)

pub shifted-next-requires : goal.shifted-next-requires
shifted-next-requires c =
    let a = c.args in
    part_fits change_f_law a.frame.now a.self c.if-frame-at.false c.change_in-read.result.next c.change_in-read.ensures.place (search rules)

pub returns : goal.returns
returns c =
    let a = c.args in
    let r = c.change_in-read in
    means_rest change_f_law a.frame.now a.self c.if-frame-at.false r.result.next (λ s. meant_change s r.result.change) r.ensures c.if-not-self.false c.shifted-next.result c.shifted-next.ensures
