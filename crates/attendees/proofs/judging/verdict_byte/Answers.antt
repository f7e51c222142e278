use Rattle.attendees.proofs.Laws as laws
use Rattle.attendees.proofs.judging.verdict_byte.Goals as goal

pub returns-then-ours-base : goal.returns-then-ours-base
returns-then-ours-base c = laws.byte_base c.args.base c.args.ours c.args.theirs c.if-ours-base.true

pub returns-then-ours-theirs : goal.returns-then-ours-theirs
returns-then-ours-theirs c = laws.byte_theirs c.args.base c.args.ours c.args.theirs c.if-ours-base.false c.if-ours-theirs.true

pub returns-then-theirs-base : goal.returns-then-theirs-base
returns-then-theirs-base c = laws.byte_ours c.args.base c.args.ours c.args.theirs c.if-ours-base.false c.if-ours-theirs.false c.if-theirs-base.true

pub returns : goal.returns
returns c = laws.byte_conflict c.args.base c.args.ours c.args.theirs c.if-ours-base.false c.if-ours-theirs.false c.if-theirs-base.false
