use Rattle.observe.proofs.Forgetting as forgetting
use native.Mathlib.Omega.{arith}
use Rattle.observe.proofs.forget.forget_alias.Goals as goal

pub held_anywhere-requires : goal.held_anywhere-requires
held_anywhere-requires c = record { has_state = c.requires.has_state; named = forgetting.to_named c.args.work.now _ c.args.i c.requires.has_state c.requires.i_bound c.alias_to-to.ensures.reads }

pub overflow_add-result : goal.overflow_add-result
overflow_add-result c =
    let h = forgetting.few c.args.work.now c.args.i c.requires.has_state c.requires.i_bound in
    omega arith

pub returns-then-held_anywhere : goal.returns-then-held_anywhere
returns-then-held_anywhere c = forgetting.kept_one c.alias_to-to.result.bytes c.args.work.now c.args.i _ c.alias_to-to.ensures.reads c.held_anywhere.ensures c.if-held_anywhere.true

pub remove_alias-requires : goal.remove_alias-requires
remove_alias-requires c = record { has_state = c.requires.has_state; named = forgetting.from_named c.args.work.now _ c.args.i c.requires.has_state c.requires.i_bound c.alias_from-from.ensures.reads }

pub returns : goal.returns
returns c = forgetting.out_one c.alias_to-to.result.bytes c.alias_from-from.result.bytes c.args.work.now c.remove_alias.new.work c.args.i _ c.alias_to-to.ensures.reads c.held_anywhere.ensures c.if-held_anywhere.false c.alias_from-from.ensures.reads c.remove_alias.ensures
