use Rattle.units.specs.Units.{unit_at}
use Rattle.units.proofs.Laws as laws
use mathlib.Core.Path.{ap, ◌∙◌}
use borrow.Author.Rules.{rules}
use Rattle.units.proofs.unit_at.Goals as goal

pub loop-j-init : goal.loop-j-init
loop-j-init c = (search rules, laws.at_zero c.args.s.now)

pub loop-j-preserved : goal.loop-j-preserved
loop-j-preserved c = (search rules, laws.at_next c.args.s.now c.loop-j.j _ _ c.loop-j.invariant.1 c.skip_unit-c.ensures)

pub returns : goal.returns
returns c = c.loop-j.invariant.1 ∙ ap (unit_at c.args.s.now) (search rules)
