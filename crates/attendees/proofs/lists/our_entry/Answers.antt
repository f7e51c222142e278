use Rattle.comparison.specs.Which.{number_of}
use Rattle.attendees.proofs.Laws as laws
use Rattle.pens.proofs.Laws as pens
use borrow.Author.Rules.{rules}
use Rattle.attendees.proofs.lists.our_entry.Goals as goal

pub returns-then-t-gt0 : goal.returns-then-t-gt0
returns-then-t-gt0 c = pens.listed_as (pens.listed_none c.args.out.now c.args.sheet.pen c.args.sheet.count) (laws.our_has (number_of c.args.which) c.args.owner c.args.me.now c.args.base.now c.args.ours.now c.args.theirs.now c.args.wanted.now c.args.n _ c.find_entry-t.ensures (search rules))

pub returns : goal.returns
returns c = pens.listed_as c.entry_of.ensures (laws.our_new (number_of c.args.which) c.args.owner c.args.me.now c.args.base.now c.args.ours.now c.args.theirs.now c.args.wanted.now c.args.n _ c.find_entry-t.ensures (search rules))
