use mathlib.Core.Path.{refl, ◌∙◌}
use Rattle.passes.proofs.Paging as paging
use Rattle.passes.proofs.changes.list_changes.Goals as goal

pub loop-left-init : goal.loop-left-init
loop-left-init c = (refl, paging.paging_start c.args.frame.now c.args.page _ c.args.id c.args.work.now c.args.p _ c.requires.has_state c.requires.ok c.count-count.ensures)

pub slice_bounds-list_change-count : goal.slice_bounds-list_change-count
slice_bounds-list_change-count c = paging.paging_in c.loop-left.invariant.1 c.loop-left-test.true

pub slice_bounds-list_change-start : goal.slice_bounds-list_change-start
slice_bounds-list_change-start c = paging.paging_in c.loop-left.invariant.1 c.loop-left-test.true

pub list_change-progress-requires : goal.list_change-progress-requires
list_change-progress-requires c = record { has_state = c.loop-left.invariant.1.state; ok = paging.rest_ok c.args.frame.now c.loop-left.place.at c.change-read.result.change (paging.change_ok _ c.loop-left.invariant.1 c.loop-left-test.true c.change-read.ensures) }

pub loop-left-preserved : goal.loop-left-preserved
loop-left-preserved c = (
  c.list_change-progress.auto.work ∙ c.loop-left.invariant.0,
  paging.paging_turn _ c.loop-left.invariant.1 c.loop-left-test.true c.change-read.ensures
      (paging.rest_listed c.args.frame.now c.loop-left.place.at c.change-read.result.change c.args.id c.list_change-progress.ensures),
)

pub shape_of-work : goal.shape_of-work
shape_of-work c = c.loop-left.invariant.0

pub returns : goal.returns
returns c = let both = paging.paging_end c.loop-left.invariant.1 c.loop-left-test.false in record { changes = both.0; place_value = both.1 }
