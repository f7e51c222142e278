use Rattle.std.proofs.Common.{◌≡◌, ◌+◌, ◌-◌, take, drop, length, ap, sym, subst, ◌∙◌, arith}
use Rattle.lent.proofs.Laws as lent
use Rattle.tables.proofs.Laws as tables
use Rattle.strides.proofs.Walks.{callable, all_is}
use Rattle.regions.specs.Inside.{TableIn}
use Rattle.regions.proofs.table.table_in.Goals as goal

pub is_table-requires : goal.is_table-requires
is_table-requires g c =
    let l : length (take (c.args.region.at + c.args.region.length - c.args.region.at) (drop c.args.region.at c.args.b.now)) ≡ c.args.region.length = ap length (sym (lent.part_is c.args.region.at c.args.region.length c.args.b.now)) ∙ tables.part_length c.args.b.now c.args.region.at c.args.region.length c.requires.inside in
    (c.requires.slots.0, c.requires.slots.1, omega (arith, c.requires.slots.2, l))

pub slots-requires : goal.slots-requires
slots-requires g c =
    let l : length (take (c.args.region.at + c.args.region.length - c.args.region.at) (drop c.args.region.at c.args.b.now)) ≡ c.args.region.length = ap length (sym (lent.part_is c.args.region.at c.args.region.length c.args.b.now)) ∙ tables.part_length c.args.b.now c.args.region.at c.args.region.length c.requires.inside in
    tables.holds_of c.args.region.stride c.args.width c.args.region.limit _ c.requires.slots.0 c.requires.slots.1 (omega (arith, c.requires.slots.2, l)) (tables.table_few (c.is_table.ensures.0 c.if-is_table.true))

pub all-requires-clause-callable : goal.all-requires-clause-callable
all-requires-clause-callable g c = callable _ _ _ _ c.args.region.stride c.slots.ensures.size (λ q x l. c.requires.takes q x l)

pub returns-then-is_table : goal.returns-then-is_table
returns-then-is_table g c = λ test computes.
    let e = all_is test c.args.region.stride (λ x l b q k. (g.met.F.Fn.1.step_stays _ _ _ _ k, computes x b l ((g.met.F.FnMut.1.post_iff _ _ _).1 (q, k)))) c.slots.ensures.size c.slots.ensures.gives c.all.ensures.ran in
    let p = lent.part_is c.args.region.at c.args.region.length c.args.b.now in
    let in_part = TableIn c.args.region.stride c.args.width test c.args.region.limit in (
      (λ y. subst in_part (sym p) (record { table = c.is_table.ensures.0 c.if-is_table.true; slots = sym e ∙ y })),
      (λ I. e ∙ (subst in_part p I).slots),
    )
