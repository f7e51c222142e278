use Rattle.attendees.proofs.Shown.{shown}
use Rattle.attendees.proofs.Laws as laws
use borrow.Author.Rules.{rules}
use Rattle.attendees.proofs.finding.display_address.Goals as goal

pub returns-then-theirs-gt0 : goal.returns-then-theirs-gt0
returns-then-theirs-gt0 c = shown c.args.base.now c.args.ours.now c.args.theirs.now _ (laws.shown_theirs c.args.base.now c.args.ours.now c.args.theirs.now (search rules) _ c.address.ensures)

pub returns-then-ours-gt0 : goal.returns-then-ours-gt0
returns-then-ours-gt0 c = shown c.args.base.now c.args.ours.now c.args.theirs.now _ (laws.shown_ours c.args.base.now c.args.ours.now c.args.theirs.now (search rules) (search rules) _ c.address-then-ours-gt0.ensures)

pub returns : goal.returns
returns c = shown c.args.base.now c.args.ours.now c.args.theirs.now _ (laws.shown_base c.args.base.now c.args.ours.now c.args.theirs.now (search rules) (search rules) _ c.address-2.ensures)
