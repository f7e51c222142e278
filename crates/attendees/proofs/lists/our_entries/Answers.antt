use Rattle.comparison.specs.Which.{number_of}
use Rattle.attendees.specs.Entries.{our_items}
use Rattle.attendees.proofs.Laws as laws
use Rattle.pens.proofs.Laws as pens
use mathlib.Core.Path.{◌≡◌, ap, ◌∙◌}
use native.Mathlib.Omega.{arith}
use borrow.Author.Rules.{rules}
use Rattle.attendees.proofs.lists.our_entries.Goals as goal

pub loop-i-init : goal.loop-i-init
loop-i-init c = (search rules, pens.listed_as (pens.listed_none c.args.out.now c.args.sheet.pen c.args.sheet.count) (laws.our_zero (number_of c.args.which) c.args.owner c.args.me.now c.args.base.now c.args.ours.now c.args.theirs.now))

pub loop-i-preserved : goal.loop-i-preserved
loop-i-preserved c = (search rules, pens.listed_as (pens.listed_then c.loop-i.invariant.1 c.our_entry-h.ensures) (laws.our_next (number_of c.args.which) c.args.owner c.args.me.now c.args.base.now c.args.ours.now c.args.theirs.now c.loop-i.i _ _ _ c.entry_part.ensures c.address-wanted.ensures c.occurrence-n.ensures))

pub shape_of-out : goal.shape_of-out
shape_of-out c = c.loop-i.invariant.1.pen.long

pub returns : goal.returns
returns c =
    let e : c.loop-i.i ≡ c.entry_count-count.result = omega (arith, c.loop-i.invariant.0, c.loop-i-test.false) in
    pens.listed_as c.loop-i.invariant.1 (ap (our_items (number_of c.args.which) c.args.owner c.args.me.now c.args.base.now c.args.ours.now c.args.theirs.now) (e ∙ c.entry_count-count.ensures))
