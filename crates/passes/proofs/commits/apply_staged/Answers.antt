use mathlib.Core.Path.{refl, ◌∙◌}
use Rattle.passes.proofs.Walking as walking
use Rattle.passes.proofs.Committing as committing
use native.Mathlib.Omega.{arith}
use Rattle.observe.proofs.Observing as observing
use Rattle.passes.proofs.commits.apply_staged.Goals as goal

pub loop-i-init : goal.loop-i-init
loop-i-init c = (refl, walking.walk_start _ _ _ c.args.work.now c.args.p c.requires, c.staged_count-count.ensures)

pub apply_entry-progress-requires : goal.apply_entry-progress-requires
apply_entry-progress-requires c = record { has_state = c.loop-i.invariant.1.state; i_bound = (committing.apply_below c.loop-i.work c.loop-i.i c.loop-i.count c.loop-i.invariant.1.state c.loop-i.invariant.2 c.loop-i-test.true).0 }

pub staged_count-count-requires-in-loop-i : goal.staged_count-count-requires-in-loop-i
staged_count-count-requires-in-loop-i c = observing.still c.apply_entry-progress.ensures c.loop-i.invariant.1.state

pub overflow_add-i : goal.overflow_add-i
overflow_add-i c = let h = (committing.apply_below c.loop-i.work c.loop-i.i c.loop-i.count c.loop-i.invariant.1.state c.loop-i.invariant.2 c.loop-i-test.true).1 in omega arith

pub loop-i-smaller : goal.loop-i-smaller
loop-i-smaller c = let h = (committing.apply_below c.loop-i.work c.loop-i.i c.loop-i.count c.loop-i.invariant.1.state c.loop-i.invariant.2 c.loop-i-test.true).1 in omega arith

pub loop-i-preserved : goal.loop-i-preserved
loop-i-preserved c = (c.apply_entry-progress.auto.work ∙ c.loop-i.invariant.0, committing.apply_turn c.loop-i.invariant.1 c.loop-i.invariant.2 c.loop-i-test.true c.apply_entry-progress.ensures, c.staged_count-count-in-loop-i.ensures)

pub shape_of-work : goal.shape_of-work
shape_of-work c = c.loop-i.invariant.0

pub returns : goal.returns
returns c = committing.apply_end c.loop-i.invariant.1 c.loop-i.invariant.2 c.loop-i-test.false
