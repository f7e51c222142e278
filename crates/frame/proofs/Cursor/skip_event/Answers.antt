use native.Mathlib.Nat.{le_of_lt}
use Rattle.model.specs.Formats.{event_f}
use Rattle.model.proofs.FormatsLaws.{event_f_law}
use Rattle.frame.proofs.Chains.{event_empty}
use Rattle.frame.proofs.Steps.{skips_stopped, skips_past, part_fits, part_shift}
use mathlib.Core.Path.{sym, ◌∙◌}
use borrow.Author.Rules.{rules}
use Rattle.frame.proofs.Cursor.skip_event.Goals as goal

pub returns-then-not-self : goal.returns-then-not-self
returns-then-not-self c =
    let a = c.args in
    skips_stopped event_f a.frame.now a.self c.if-not-self.true

pub returns-then-frame-at : goal.returns-then-frame-at
returns-then-frame-at c =
    let a = c.args in
    sym (skips_past event_f_law a.frame.now event_empty a.self (le_of_lt c.if-frame-at.true))

pub shifted-requires : goal.shifted-requires
shifted-requires c =
    let a = c.args in
    part_fits event_f_law a.frame.now a.self c.if-frame-at.false c.event_in.result c.event_in.ensures (search rules)

pub returns : goal.returns
returns c =
    let a = c.args in
    c.shifted.ensures ∙ part_shift event_f_law a.frame.now a.self c.if-frame-at.false c.event_in.result c.event_in.ensures c.if-not-self.false
