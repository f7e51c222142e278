use Rattle.engine.proofs.Entry as entry
use mathlib.Core.Path.{sym}
use lib.Seq.{length-take-le}
use Rattle.engine.proofs.apply_within.Goals as goal

pub slice_bounds-apply-end-2 : goal.slice_bounds-apply-end-2
slice_bounds-apply-end-2 c = sym (length-take-le c.args.end c.args.out.now c.requires.end_in_bounds)

pub returns : goal.returns
returns c = entry.part_back c.args.end c.args.out.now c.apply.new.out c.requires.end_in_bounds c.apply.auto.out c.apply.ensures
