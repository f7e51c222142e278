use Prim.Native.Nat.{◌<◌}
use native.Mathlib.Omega.{arith}
use lib.ListN.{length}
use Rattle.model.specs.Maps.{map}
use Rattle.model.specs.Sync.{restart_edit}
use Rattle.state.specs.Values.{name_of, Named}
use Rattle.observe.proofs.Each as each
use Rattle.restarts.proofs.restart_each.Goals as goal

pub loop-k-init : goal.loop-k-init
loop-k-init c = (c.requires.has_state, each.each_start restart_edit (map name_of c.args.names.now))

pub restart_edit-q-requires : goal.restart_edit-q-requires
restart_edit-q-requires c =
    let l = c.loop-k-test.true in
    let e = c.len-k-end.ensures in
    let N : Named c.name-name.result.bytes = rw c.name-name.ensures (c.requires.named.named c.loop-k.k (omega arith)) in
    record { has_state = c.loop-k.invariant.0; named = N }

pub loop-k-preserved : goal.loop-k-preserved
loop-k-preserved c =
    let l = c.loop-k-test.true in
    let e = c.len-k-end.ensures in
    let h : c.loop-k.k < length c.args.names.now = omega arith in
    (c.restart_edit-q.ensures.state c.loop-k.invariant.0, each.names_turn restart_edit _ c.loop-k.k _ h c.name-name.ensures c.loop-k.invariant.1 c.restart_edit-q.ensures)

pub returns : goal.returns
returns c =
    let l = c.loop-k-test.false in
    let e = c.len-k-end.ensures in
    each.names_end restart_edit _ c.loop-k.k (omega arith) c.loop-k.invariant.1
