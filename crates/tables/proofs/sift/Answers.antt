use Rattle.std.proofs.Common.{◌∙◌, sym, ap, subst, subst₂, length, get_or, List, ℕ, ◌+◌, arith, rules}
use Rattle.tables.specs.Table.{keeps, against}
use Rattle.tables.proofs.Laws as laws
use Rattle.tables.proofs.sift.Goals as goal
use Rattle.tables.proofs.sift.Goals.{then-passes, else-passes}

pub loop-i-init : goal.loop-i-init
loop-i-init c = (search rules, λ t z e. laws.sieve_start (λ s. keeps c.args.above (against c.args.o c.args.pattern.now s)) (laws.tab_of c.requires.tab t z e))

pub overflow_add-at : goal.overflow_add-at
overflow_add-at c =
    let h = (laws.sieve_turn (omega arith) (c.loop-i.invariant.1 c.requires.tab.t c.requires.tab.sized c.requires.tab.is)).room in
    let q = c.loop-i.invariant.0 in
    omega arith

pub overflow_add-at-then-passes : goal.overflow_add-at-then-passes
overflow_add-at-then-passes c =
    let h = (laws.sieve_turn (omega arith) (c.loop-i.invariant.1 c.requires.tab.t c.requires.tab.sized c.requires.tab.is)).room in
    let q = c.loop-i.invariant.0 in
    omega arith

pub passes-requires : goal.passes-requires
passes-requires c =
    let h = (laws.sieve_turn (omega arith) (c.loop-i.invariant.1 c.requires.tab.t c.requires.tab.sized c.requires.tab.is)).room in
    let q = c.loop-i.invariant.0 in
    omega arith

pub close_slot-requires : goal.close_slot-requires
close_slot-requires c =
    let h = (laws.sieve_turn (omega arith) (c.loop-i.invariant.1 c.requires.tab.t c.requires.tab.sized c.requires.tab.is)).room in
    let q = c.loop-i.invariant.0 in
    omega arith

pub loop-i-preserved : goal.loop-i-preserved
loop-i-preserved c =
    let at-slot = ap (keeps c.args.above) (sym (laws.against_slot c.loop-i.region c.args.pattern.now c.args.stride c.loop-i.at c.args.o c.requires.pattern_bound)) ∙ sym c.passes.ensures in
    elim c.if-passes.branch [
      | then-passes w ↦ (
        ap length w.region-is ∙ c.loop-i.invariant.0,
        λ t z e. subst₂ (λ (x : List ℕ) (a : ℕ). laws.Sieve (λ s. keeps c.args.above (against c.args.o c.args.pattern.now s)) c.args.stride t (length c.args.region.now) x a (c.loop-i.i + 1) (get_or c.args.region.now 0 0)) (sym w.region-is) (sym w.at-is) ((laws.sieve_turn (omega arith) (c.loop-i.invariant.1 t z e)).stay (at-slot ∙ w.if-passes.true)),
      )
      | else-passes w ↦ (
        ap length w.region-is ∙ w.close_slot.auto.region ∙ c.loop-i.invariant.0,
        λ t z e. subst (λ (a : ℕ). laws.Sieve (λ s. keeps c.args.above (against c.args.o c.args.pattern.now s)) c.args.stride t (length c.args.region.now) c.if-passes.region a (c.loop-i.i + 1) (get_or c.args.region.now 0 0)) (sym w.at-is) ((laws.sieve_turn (omega arith) (c.loop-i.invariant.1 t z e)).out c.if-passes.region (at-slot ∙ w.if-passes.false) (w.region-is ∙ w.close_slot.ensures)),
      )
    ]

pub returns : goal.returns
returns c = λ t z e. laws.sieve_end (omega arith) (c.loop-i.invariant.1 t z e)
