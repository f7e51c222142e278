use native.Mathlib.Omega.{arith}
use Rattle.records.proofs.Laws as laws
use Rattle.records.proofs.Sieve as sieve
use Rattle.records.proofs.retain_one.Goals as goal

pub overflow_add-result : goal.overflow_add-result
overflow_add-result c = omega (arith, laws.few c.args.work.now c.args.i c.requires.has_state c.requires.i_bound)

pub returns-then-has : goal.returns-then-has
returns-then-has c = sieve.kept_one c.record_name-name.result.bytes c.args.work.now c.args.i _ c.record_name-name.ensures.reads c.has.ensures c.if-has.true

pub returns-else-has : goal.returns-else-has
returns-else-has c = sieve.out_one c.record_name-name.result.bytes c.args.work.now c.remove_record.new.work c.args.i _ c.record_name-name.ensures.reads c.has.ensures c.if-has.false c.remove_record.ensures
