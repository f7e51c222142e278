use Rattle.program.proofs.Laws.{going_start, next_there, turn, line_room, going_ends}
use native.Mathlib.Omega.{arith}
use borrow.Author.Rules.{rules}
use Rattle.program.proofs.put_effects.Goals as goal

pub loop-from-init : goal.loop-from-init
loop-from-init c = (search rules, search rules, search rules, search rules, λ E. going_start E.es c.args.text.now c.args.at)

pub put_effect-next-requires : goal.put_effect-next-requires
put_effect-next-requires c = let n = next_there c.requires.effects (c.loop-from.invariant.4 c.requires.effects) _ c.effect_end-end.ensures c.loop-from-test.true in record { from_le_end = (search rules, search rules); from_in_bounds = omega arith }

pub loop-from-smaller : goal.loop-from-smaller
loop-from-smaller c = let n = next_there c.requires.effects (c.loop-from.invariant.4 c.requires.effects) _ c.effect_end-end.ensures c.loop-from-test.true in omega arith

pub loop-from-preserved : goal.loop-from-preserved
loop-from-preserved c =
    let n = next_there c.requires.effects (c.loop-from.invariant.4 c.requires.effects) _ c.effect_end-end.ensures c.loop-from-test.true in
    let l = line_room c.args.effects.now c.loop-from.from _ c.loop-from.next _ n c.put_effect-next.ensures in
    (search rules, search rules, omega arith, omega arith, λ E. turn E (c.loop-from.invariant.4 E) _ c.effect_end-end.ensures c.loop-from-test.true _ _ (omega arith) c.put_effect-next.ensures)

pub returns : goal.returns
returns c = λ E. going_ends E (c.loop-from.invariant.4 E) c.loop-from-test.false (omega arith)
