use native.Mathlib.Nat.{sub-zero}
use mathlib.Core.Path.{sym, ◌∙◌}
use Rattle.model.specs.Limits.{max_count}
use Rattle.model.specs.Formats.{conflict_f, conflicts_f}
use Rattle.model.proofs.FormatsLaws.{conflict_f_law}
use Rattle.frame.proofs.Skips.{skips_list, skip_n_step, skip_n_end}
use borrow.Author.Rules.{rules}
use Rattle.effects.proofs.skip_conflicts.Goals as goal

pub loop-i-init : goal.loop-i-init
loop-i-init c = (search rules, rw sub-zero)

pub loop-i-preserved : goal.loop-i-preserved
loop-i-preserved c =
    let l = c.loop-i in
    let n = c.count-count.result.value in
    let s = c.args.s.now in
    (search rules, l.invariant.1 ∙ rw c.skip_conflict-c.ensures (skip_n_step conflict_f s n l.i l.c (search rules)))

pub returns : goal.returns
unfolding conflicts_f max_count
returns c =
    let l = c.loop-i in
    let b = c.count-count in
    let a = c.args in
    let s = a.s.now in
    sym (skips_list conflict_f_law s max_count a.place b.result.next b.result.value b.ensures ∙ (l.invariant.1 ∙ skip_n_end conflict_f s b.result.value l.i l.c (search rules)))
