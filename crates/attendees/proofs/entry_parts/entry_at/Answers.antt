use Rattle.attendees.specs.Entries.{entry_at}
use Rattle.attendees.proofs.Laws as laws
use mathlib.Core.Path.{ap, ◌∙◌}
use borrow.Author.Rules.{rules}
use Rattle.attendees.proofs.entry_parts.entry_at.Goals as goal

pub loop-j-init : goal.loop-j-init
loop-j-init c = (search rules, laws.at_zero c.args.list.now _ c.count-count.ensures.place)

pub loop-j-preserved : goal.loop-j-preserved
loop-j-preserved c = (search rules, laws.at_next c.args.list.now c.loop-j.j _ _ c.loop-j.invariant.1 c.skip_attendee-c.ensures)

pub returns : goal.returns
returns c = c.loop-j.invariant.1 ∙ ap (entry_at c.args.list.now) (search rules)
