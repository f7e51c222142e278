use Rattle.units.specs.Units.{units_items}
use Rattle.units.proofs.Laws as laws
use Rattle.pens.proofs.Laws as pens
use mathlib.Core.Path.{◌≡◌, ap}
use Prim.Native.Nat.{◌+◌, ◌-◌, ◌≤◌, ◌<◌}
use native.Mathlib.Omega.{arith}
use borrow.Author.Rules.{rules}
use Rattle.units.proofs.units.Goals as goal

pub loop-k-init : goal.loop-k-init
loop-k-init c =
    let a = c.args in (
      search rules,
      search rules,
      c.unit_at-b.ensures,
      c.unit_at-o.ensures,
      c.unit_at-t.ensures,
      pens.listed_as
          (pens.listed_none a.out.now a.sheet.pen a.sheet.count)
          (laws.units_none a.which a.owner a.base.now a.ours.now a.theirs.now a.from (a.from - a.from) (omega arith)),
    )

pub loop-k-preserved : goal.loop-k-preserved
loop-k-preserved c =
    let a = c.args in
    let l = c.loop-k in
    let t : l.k < a.to = c.loop-k-test.true in
    let low : a.from ≤ l.k + 1 = omega (arith, l.invariant.0) in
    let high : l.k + 1 - a.from ≤ a.to - a.from = omega (arith, l.invariant.0, t) in (
      low,
      high,
      laws.at_next a.base.now l.k _ _ l.invariant.2 c.skip_unit-b_end.ensures,
      laws.at_next a.ours.now l.k _ _ l.invariant.3 c.skip_unit-o_end.ensures,
      laws.at_next a.theirs.now l.k _ _ l.invariant.4 c.skip_unit-t_end.ensures,
      pens.listed_as
          (pens.listed_then l.invariant.5 (pens.listed_as c.unit-h.ensures (laws.unit_asked a.which _ c.of-asked.ensures l.k _ _ _ _)))
          (laws.units_more a.which a.owner a.base.now a.ours.now a.theirs.now a.from l.k l.invariant.0 _ _ _ _
          (laws.part_of_unit a.base.now l.k _ _ _ l.invariant.2 c.skip_unit-b_end.ensures c.part.ensures)
          (laws.part_of_unit a.ours.now l.k _ _ _ l.invariant.3 c.skip_unit-o_end.ensures c.part-in-loop-k.ensures)
          (laws.part_of_unit a.theirs.now l.k _ _ _ l.invariant.4 c.skip_unit-t_end.ensures c.part-in-loop-k-2.ensures)
          c.owned_unit-owned.ensures),
    )

pub returns : goal.returns
returns c =
    let a = c.args in
    let l = c.loop-k in
    let e : l.k - a.from ≡ a.to - a.from = omega (arith, l.invariant.0, l.invariant.1, c.loop-k-test.false) in
    pens.listed_as l.invariant.5 (ap (units_items a.which a.owner a.base.now a.ours.now a.theirs.now a.from) e)
