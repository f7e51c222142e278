use Rattle.comparison.specs.Which.{number_of}
use Rattle.attendees.proofs.Laws as laws
use Rattle.pens.proofs.Laws as pens
use Rattle.attendees.proofs.lists.entry_of.Goals as goal

pub returns : goal.returns
returns c = pens.listed_as c.entry.ensures (laws.key_is (number_of c.args.which) c.args.owner c.args.me.now c.args.base.now c.args.ours.now c.args.theirs.now c.args.wanted.now c.args.n _ _ _ _ _ c.find_entry-b.ensures c.find_entry-o.ensures c.find_entry-t.ensures c.is_own-own.ensures c.judge-j.ensures)
