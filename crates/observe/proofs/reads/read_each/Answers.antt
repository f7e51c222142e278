use Prim.Native.Nat.{◌<◌}
use native.Mathlib.Omega.{arith}
use lib.ListN.{length}
use Rattle.model.specs.Maps.{map}
use Rattle.state.specs.Values.{name_of, Named}
use Rattle.observe.specs.Reading.{read_for_pass}
use Rattle.observe.proofs.Each as each
use Rattle.observe.proofs.reads.read_each.Goals as goal

pub loop-i-init : goal.loop-i-init
loop-i-init c = (c.requires.has_state, each.each_start read_for_pass (map name_of c.args.names.now))

pub request_read-q-requires : goal.request_read-q-requires
request_read-q-requires c =
    let l = c.loop-i-test.true in
    let e = c.len-i-end.ensures in
    let N : Named c.name-name.result.bytes = rw c.name-name.ensures (c.requires.named.named c.loop-i.i (omega arith)) in
    record { has_state = c.loop-i.invariant.0; named = (N, N) }

pub loop-i-preserved : goal.loop-i-preserved
loop-i-preserved c =
    let l = c.loop-i-test.true in
    let e = c.len-i-end.ensures in
    let h : c.loop-i.i < length c.args.names.now = omega arith in
    (c.request_read-q.ensures.state c.loop-i.invariant.0, each.names_turn read_for_pass _ c.loop-i.i _ h c.name-name.ensures c.loop-i.invariant.1 c.request_read-q.ensures)

pub returns : goal.returns
returns c =
    let l = c.loop-i-test.false in
    let e = c.len-i-end.ensures in
    each.names_end read_for_pass _ c.loop-i.i (omega arith) c.loop-i.invariant.1
