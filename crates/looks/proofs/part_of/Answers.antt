use Rattle.looks.proofs.Laws.{part_past, part_short, part_whole}
use Rattle.looks.proofs.part_of.Goals as goal

pub returns-then-state-at : goal.returns-then-state-at
returns-then-state-at c = part_past c.args.state.now c.args.p.at c.args.p.length c.if-state-at.true

pub returns-then-state-at-2 : goal.returns-then-state-at-2
returns-then-state-at-2 c = part_short c.args.state.now c.args.p.at c.args.p.length c.if-state-at-2.true

pub returns : goal.returns
returns c = part_whole c.args.state.now c.args.p.at c.args.p.length
