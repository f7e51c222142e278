use Rattle.units.proofs.Laws as laws
use mathlib.Core.Path.{◌∙◌}
use Prim.Native.Nat.{◌≤◌}
use borrow.Author.Rules.{rules}
use Rattle.units.proofs.skip_unit.Goals as goal

pub returns-then-k-eq0 : goal.returns-then-k-eq0
returns-then-k-eq0 c = c.skip_option_short_text.ensures ∙ laws.unit_0 c.args.s.now c.args.c c.args.k (search rules)

pub returns-then-k-eq1 : goal.returns-then-k-eq1
returns-then-k-eq1 c = c.skip_tag.ensures ∙ laws.unit_1 c.args.s.now c.args.c c.args.k (search rules)

pub returns-then-k-eq2 : goal.returns-then-k-eq2
returns-then-k-eq2 c = c.skip_option_tag.ensures ∙ laws.unit_2 c.args.s.now c.args.c c.args.k (search rules)

pub returns-then-k-eq3 : goal.returns-then-k-eq3
returns-then-k-eq3 c = c.skip_option_organizer.ensures ∙ laws.unit_3 c.args.s.now c.args.c c.args.k (search rules)

pub returns-then-k-eq4 : goal.returns-then-k-eq4
returns-then-k-eq4 c = c.skip_attendees.ensures ∙ laws.unit_4 c.args.s.now c.args.c c.args.k (search rules)

pub returns-then-k-eq5 : goal.returns-then-k-eq5
returns-then-k-eq5 c = c.skip_option_short_text-then-k-eq5.ensures ∙ laws.unit_5 c.args.s.now c.args.c c.args.k (search rules)

pub returns-then-k-eq6 : goal.returns-then-k-eq6
returns-then-k-eq6 c = c.skip_option_tag-then-k-eq6.ensures ∙ laws.unit_6 c.args.s.now c.args.c c.args.k (search rules)

pub returns-then-k-eq7 : goal.returns-then-k-eq7
returns-then-k-eq7 c = c.skip_below.ensures ∙ laws.unit_7 c.args.s.now c.args.c c.args.k (search rules)

pub returns-then-k-eq8 : goal.returns-then-k-eq8
returns-then-k-eq8 c = c.skip_below-then-k-eq8.ensures ∙ laws.unit_8 c.args.s.now c.args.c c.args.k (search rules)

pub returns-then-k-eq9 : goal.returns-then-k-eq9
returns-then-k-eq9 c = c.skip_below-then-k-eq9.ensures ∙ laws.unit_9 c.args.s.now c.args.c c.args.k (search rules)

pub returns : goal.returns
returns c =
    let k = c.args.k in
    let ks : 10 ≤ k = laws.past (laws.past (laws.past (laws.past (laws.past (laws.past (laws.past (laws.past (laws.past (laws.past (search rules) c.if-k-eq0.false) c.if-k-eq1.false) c.if-k-eq2.false) c.if-k-eq3.false) c.if-k-eq4.false) c.if-k-eq5.false) c.if-k-eq6.false) c.if-k-eq7.false) c.if-k-eq8.false) c.if-k-eq9.false in
    c.skip_tag-2.ensures ∙ laws.unit_10 c.args.s.now c.args.c k ks
