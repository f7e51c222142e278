use Rattle.state.proofs.Ops as ops
use native.Mathlib.Omega.{arith}
use Rattle.state.proofs.alias_from.Goals as goal

pub overflow_mul-i : goal.overflow_mul-i
overflow_mul-i c =
    let h = ops.alias_few c.args.work.now c.args.i c.requires.has_state c.requires.i_bound in
    omega arith

pub overflow_add-i : goal.overflow_add-i
overflow_add-i c =
    let h = ops.alias_few c.args.work.now c.args.i c.requires.has_state c.requires.i_bound in
    omega arith

pub name_at-requires : goal.name_at-requires
name_at-requires c =
    let h = ops.alias_few c.args.work.now c.args.i c.requires.has_state c.requires.i_bound in
    omega arith

pub returns : goal.returns
returns c = record { reads = ops.alias_from_is c.args.work.now c.name_at.result.bytes c.args.i c.requires.i_bound c.name_at.ensures; named = ops.alias_from_named c.args.work.now c.name_at.result.bytes c.args.i c.requires.has_state c.requires.i_bound c.name_at.ensures }
