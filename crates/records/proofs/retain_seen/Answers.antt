use native.Mathlib.Omega.{arith}
use Rattle.state.proofs.Retaining as retaining
use Rattle.records.proofs.Sieve as sieve
use Rattle.records.proofs.retain_seen.Goals as goal

pub loop-init : goal.loop-init
loop-init c = sieve.retain_start c.args.work.now _ c.record_count-end.ensures

pub retain_one-i-requires : goal.retain_one-i-requires
retain_one-i-requires c = record {
  has_state = retaining.retain_has c.args.work.now c.loop.work c.loop.i _ c.requires c.loop.invariant;
  i_bound = sieve.retain_below c.args.work.now c.loop.work c.loop.i c.record_count-end.result c.loop.counter c.requires c.loop.invariant c.loop-test.true;
}

pub loop-preserved : goal.loop-preserved
loop-preserved c = sieve.retain_turn c.args.work.now c.loop.work c.retain_one-i.new.work c.loop.i c.record_count-end.result c.loop.counter _ c.loop.invariant c.loop-test.true c.retain_one-i.ensures

pub returns : goal.returns
returns c = retaining.retain_end c.args.work.now c.loop.work c.loop.i _ (let l = c.loop-test.false in omega arith) c.loop.invariant
