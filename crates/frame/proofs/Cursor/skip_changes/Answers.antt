use native.Mathlib.Nat.{sub-zero}
use Rattle.model.specs.Limits.{max_changes}
use Rattle.model.specs.Formats.{change_f}
use Rattle.model.proofs.FormatsLaws.{change_f_law}
use Rattle.frame.proofs.Skips.{skips_list, skip_n_step, skip_n_end}
use mathlib.Core.Path.{sym, ◌∙◌}
use borrow.Author.Rules.{rules}
use Rattle.frame.proofs.Cursor.skip_changes.Goals as goal

pub loop-i-init : goal.loop-i-init
loop-i-init c = (search rules, rw sub-zero)

pub loop-i-preserved : goal.loop-i-preserved
loop-i-preserved c =
    let l = c.loop-i in
    let n = c.count-count.result.value in
    let s = c.args.frame.now in
    (search rules, l.invariant.1 ∙ rw c.change-read.ensures.place (skip_n_step change_f s n l.i l.c (search rules)))

pub returns : goal.returns
unfolding max_changes
returns c =
    let l = c.loop-i in
    let b = c.count-count in
    let a = c.args in
    let s = a.frame.now in
    sym (skips_list change_f_law s max_changes a.self b.result.next b.result.value b.ensures ∙ (l.invariant.1 ∙ skip_n_end change_f s b.result.value l.i l.c (search rules)))
