use native.Mathlib.Omega.{arith}
use Rattle.records.proofs.Laws as laws
use Rattle.records.proofs.record_name.Goals as goal

pub overflow_mul-i : goal.overflow_mul-i
overflow_mul-i c = omega (arith, laws.few c.args.work.now c.args.i c.requires.has_state c.requires.i_bound)

pub overflow_add-i : goal.overflow_add-i
overflow_add-i c = omega (arith, laws.few c.args.work.now c.args.i c.requires.has_state c.requires.i_bound)

pub name_at-requires : goal.name_at-requires
name_at-requires c = omega (arith, laws.few c.args.work.now c.args.i c.requires.has_state c.requires.i_bound)

pub returns : goal.returns
returns c = let both = laws.record_named c.args.work.now c.name_at.result.bytes c.args.i c.requires.has_state c.requires.i_bound c.name_at.ensures in record { reads = both.0; named = both.1 }
