use mathlib.Core.Path.{refl, ◌∙◌}
use Rattle.passes.proofs.Walking as walking
use Rattle.passes.proofs.Committing as committing
use native.Mathlib.Omega.{arith}
use Rattle.observe.proofs.Observing as observing
use Rattle.passes.proofs.commits.stage_observed.Goals as goal

pub loop-i-init : goal.loop-i-init
loop-i-init c = (refl, walking.walk_start _ _ _ c.args.work.now c.args.p c.requires, c.count-count.ensures)

pub at-name-requires : goal.at-name-requires
at-name-requires c = record { has_state = c.loop-i.invariant.1.state; i_bound = (committing.stage_below c.loop-i.work c.loop-i.i c.loop-i.count c.loop-i.invariant.1.state c.loop-i.invariant.2 c.loop-i-test.true).0 }

pub stage_unread-progress-requires : goal.stage_unread-progress-requires
stage_unread-progress-requires c = record { has_state = c.loop-i.invariant.1.state; named = c.at-name.ensures.named }

pub count-count-requires-in-loop-i : goal.count-count-requires-in-loop-i
count-count-requires-in-loop-i c = observing.still c.stage_unread-progress.ensures c.loop-i.invariant.1.state

pub overflow_add-i : goal.overflow_add-i
overflow_add-i c = let h = (committing.stage_below c.loop-i.work c.loop-i.i c.loop-i.count c.loop-i.invariant.1.state c.loop-i.invariant.2 c.loop-i-test.true).1 in omega arith

pub loop-i-smaller : goal.loop-i-smaller
loop-i-smaller c = let h = (committing.stage_below c.loop-i.work c.loop-i.i c.loop-i.count c.loop-i.invariant.1.state c.loop-i.invariant.2 c.loop-i-test.true).1 in omega arith

pub loop-i-preserved : goal.loop-i-preserved
loop-i-preserved c = (c.stage_unread-progress.auto.work ∙ c.loop-i.invariant.0, committing.stage_turn c.at-name.result.bytes c.loop-i.invariant.1 c.loop-i.invariant.2 c.loop-i-test.true c.at-name.ensures.reads c.stage_unread-progress.ensures, c.count-count-in-loop-i.ensures)

pub shape_of-work : goal.shape_of-work
shape_of-work c = c.loop-i.invariant.0

pub returns : goal.returns
returns c = committing.stage_end c.loop-i.invariant.1 c.loop-i.invariant.2 c.loop-i-test.false
