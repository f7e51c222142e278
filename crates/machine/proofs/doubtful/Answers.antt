use mathlib.Core.Bool.{false}
use Rattle.machine.proofs.Steps as steps
use Rattle.machine.proofs.doubtful.Goals as goal

pub returns-then-id-learned_all : goal.returns-then-id-learned_all
returns-then-id-learned_all c = steps.surely _ c.args.id c.learned_all.ensures c.if-id-learned_all.true

pub returns-in-None : goal.returns-in-None
returns-in-None c = steps.by_learned c.args.id _ false c.learned_all.ensures c.if-id-learned_all.false c.learned.ensures (steps.never c.args.id c.in-None.is)

pub returns-in-Some : goal.returns-in-Some
returns-in-Some c = steps.by_learned c.args.id _ _ c.learned_all.ensures c.if-id-learned_all.false c.learned.ensures (steps.since c.args.id c.in-Some.n c.in-Some.is)
