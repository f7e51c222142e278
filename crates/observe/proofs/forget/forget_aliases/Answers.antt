use native.Mathlib.Omega.{arith}
use Rattle.state.proofs.Retaining as retaining
use Rattle.observe.proofs.Forgetting as forgetting
use Rattle.observe.proofs.forget.forget_aliases.Goals as goal

pub loop-init : goal.loop-init
loop-init c = forgetting.retain_start c.args.work.now _ c.alias_count-count.ensures

pub forget_alias-i-requires : goal.forget_alias-i-requires
forget_alias-i-requires c = record {
  has_state = retaining.retain_has c.args.work.now c.loop.work c.loop.i _ c.requires c.loop.invariant;
  i_bound = forgetting.retain_below c.args.work.now c.loop.work c.loop.i c.alias_count-count.result c.loop.counter c.requires c.loop.invariant c.loop-test.true;
}

pub loop-preserved : goal.loop-preserved
loop-preserved c = forgetting.retain_turn c.args.work.now c.loop.work c.forget_alias-i.new.work c.loop.i c.alias_count-count.result c.loop.counter _ c.loop.invariant c.loop-test.true c.forget_alias-i.ensures

pub returns : goal.returns
returns c = retaining.retain_end c.args.work.now c.loop.work c.loop.i _ (let l = c.loop-test.false in omega arith) c.loop.invariant
