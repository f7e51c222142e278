use Rattle.attendees.proofs.Laws as laws
use borrow.Author.Rules.{rules}
use Rattle.attendees.proofs.finding.occurrence.Goals as goal

pub loop-j-init : goal.loop-j-init
loop-j-init c = (search rules, search rules, laws.tally_zero c.args.list.now _)

pub loop-j-preserved : goal.loop-j-preserved
loop-j-preserved c = (search rules, laws.one_most _ _ _ c.same_folded.result c.more_if-n.ensures c.loop-j.invariant.1, laws.tally_next c.args.list.now _ c.loop-j.j _ _ _ _ _ c.loop-j.invariant.2 c.more_if-n.ensures c.same_folded.ensures c.address-e.ensures c.entry_part-in-loop-j.ensures)

pub returns : goal.returns
returns c = laws.tally_done c.args.list.now _ _ c.args.i c.loop-j.j _ c.loop-j.invariant.2 (search rules) c.address-a.ensures c.entry_part.ensures
