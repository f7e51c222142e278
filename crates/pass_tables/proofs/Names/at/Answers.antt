use native.Mathlib.Omega.{arith}
use Rattle.pass_tables.proofs.Laws as laws
use Rattle.pass_tables.proofs.Names.at.Goals as goal

pub overflow_mul-i : goal.overflow_mul-i
overflow_mul-i c = omega (arith, laws.name_room c.args.self c.region.result c.region.ensures c.args.work.now c.args.i c.requires.has_state c.requires.i_bound, c.requires.has_state.keeps.long)

pub name_at-requires : goal.name_at-requires
name_at-requires c = laws.name_room c.args.self c.region.result c.region.ensures c.args.work.now c.args.i c.requires.has_state c.requires.i_bound

pub returns : goal.returns
returns c =
    let both = laws.name_in c.args.self c.region.result c.region.ensures c.args.work.now c.name_at.result.bytes c.args.i c.requires.has_state c.requires.i_bound c.name_at.ensures in
    record { reads = both.0; named = both.1 }
