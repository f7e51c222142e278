use Rattle.comparison.specs.Which.{number_of}
use Rattle.attendees.proofs.Laws as laws
use Rattle.pens.proofs.Laws as pens
use mathlib.Core.Path.{◌∙◌}
use Rattle.attendees.proofs.lists.entries.Goals as goal

pub returns : goal.returns
returns c = pens.listed_as (pens.listed_then c.their_entries-h.ensures c.our_entries.ensures)
    (laws.entries_are (number_of c.of-asked.result) c.args.owner c.args.me.now c.args.base.now c.args.ours.now c.args.theirs.now
    ∙ laws.entries_asked c.args.which c.args.owner c.args.me.now c.args.base.now c.args.ours.now c.args.theirs.now _ c.of-asked.ensures)
