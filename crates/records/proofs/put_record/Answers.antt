use Prim.Native.Nat.{◌+◌, ◌≤◌}
use native.Mathlib.Omega.{arith}
use lib.ListN.{length}
use Rattle.state.proofs.Columns as columns
use Rattle.state.proofs.Ops as ops
use Rattle.records.proofs.Laws as laws
use Rattle.records.proofs.put_record.Goals as goal

pub slot-slot-requires : goal.slot-slot-requires
slot-slot-requires c =
    let h : length c.args.name.bytes + length c.args.event.now ≤ 915 = omega (arith, ops.named_long c.args.name.bytes c.requires.named.0, laws.event_long c.args.event.now c.requires.named.1) in
    (omega arith, h)

pub insert-requires-clause-lent : goal.insert-requires-clause-lent
insert-requires-clause-lent c = columns.has_lent laws.record_column c.requires.has_state

pub returns : goal.returns
returns c = laws.record_tries c.args.name.bytes c.args.event.now c.slot-slot.result c.args.work.now c.insert.new.work _ c.requires.named.0 c.slot-slot.ensures c.insert.ensures
