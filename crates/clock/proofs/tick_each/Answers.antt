use mir.Syntax.{w64}
use mir.Val.{to_z, of_z}
use mir.Facts.{to_z-of_z}
use Prim.Native.Nat.{◌<◌}
use native.Mathlib.Omega.{arith}
use lib.ListN.{length}
use Rattle.model.specs.Maps.{map, keys}
use Rattle.model.specs.Sync.{tick_resource}
use Rattle.state.specs.Values.{name_of, Named, EachNamed}
use Rattle.state.proofs.Names.{each_named}
use Rattle.waiting.proofs.Keys.{keys_ok}
use Rattle.observe.proofs.Each as each
use Rattle.clock.proofs.Ticking as ticking
use Rattle.clock.proofs.tick_each.Goals as goal

pub loop-k-init : goal.loop-k-init
loop-k-init c = (c.requires, each.each_start (tick_resource _) (map name_of c.resources-names.result))

pub tick_resource-q-requires : goal.tick_resource-q-requires
tick_resource-q-requires c =
    let l = c.loop-k-test.true in
    let e = c.len-k-end.ensures in
    let E : EachNamed c.resources-names.result = each_named c.resources-names.result (keys c.requires.state.edits) (c.resources-names.ensures.is c.requires.state c.requires.keeps) (keys_ok c.requires.state.edits c.requires.keeps.fits.edits.each) in
    let N : Named c.name-name.result.bytes = rw c.name-name.ensures (E.named c.loop-k.k (omega arith)) in
    record { has_state = c.loop-k.invariant.0; named = N }

pub loop-k-preserved : goal.loop-k-preserved
loop-k-preserved c =
    let l = c.loop-k-test.true in
    let e = c.len-k-end.ensures in
    let h : c.loop-k.k < length c.resources-names.result = omega arith in
    (c.tick_resource-q.ensures.state c.loop-k.invariant.0, each.names_turn (tick_resource (to_z w64 (of_z w64 c.args.at))) _ c.loop-k.k _ h c.name-name.ensures c.loop-k.invariant.1 c.tick_resource-q.ensures)

pub returns : goal.returns
returns c =
    let l = c.loop-k-test.false in
    let e = c.len-k-end.ensures in
    ticking.each_at (to_z-of_z c.ranges.at) (each.names_read (tick_resource (to_z w64 (of_z w64 c.args.at))) _ (λ s. keys s.edits) c.requires c.resources-names.ensures (each.names_end (tick_resource (to_z w64 (of_z w64 c.args.at))) _ c.loop-k.k (omega arith) c.loop-k.invariant.1))
