use Rattle.engine.proofs.Entry as entry
use mathlib.Core.Path.{◌∙◌}
use Rattle.engine.proofs.run.Goals as goal

pub apply_within-p-requires : goal.apply_within-p-requires
apply_within-p-requires c = record { has_state = entry.copy_state c.args.work.now c.args.state.now c.copy_into.new.dst c.requires.has_state c.requires.work_len c.copy_into.ensures; ok = c.requires.ok; end_in_bounds = c.requires.in_bounds }

pub ended-requires : goal.ended-requires
ended-requires c = (entry.as_long c.args.state.now c.args.work.now c.copy_into.new.dst c.apply_within-p.new.work c.requires.has_state c.requires.work_len c.copy_into.auto.dst c.apply_within-p.auto.work, entry.within _ c.args.state.now c.copy_into.new.dst c.args.out.now c.apply_within-p.new.work c.apply_within-p.new.out c.apply_within-p.result c.requires.in_bounds c.apply_within-p.auto.out (entry.copy_is c.args.work.now c.args.state.now c.copy_into.new.dst c.requires.has_state c.requires.work_len c.copy_into.ensures) c.requires.has_state c.apply_within-p.ensures)

pub returns : goal.returns
returns c = entry.steps _ c.args.state.now c.args.work.now c.args.out.now c.copy_into.new.dst c.apply_within-p.new.work c.apply_within-p.new.out c.apply_within-p.result c.ended.result c.ended.new.state c.ended.new.work c.ended.new.out c.requires.in_bounds (entry.copy_is c.args.work.now c.args.state.now c.copy_into.new.dst c.requires.has_state c.requires.work_len c.copy_into.ensures) (c.apply_within-p.auto.work ∙ c.copy_into.auto.dst) c.apply_within-p.auto.out c.apply_within-p.ensures c.ended.ensures
