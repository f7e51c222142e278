use Prim.Native.Nat.{◌<◌}
use native.Mathlib.Omega.{arith}
use lib.ListN.{length}
use Rattle.observe.proofs.Reading as reading
use Rattle.observe.proofs.reads.note.Goals as goal

pub push-requires : goal.push-requires
push-requires c =
    let h : length c.args.names.now < 10 = reading.few c.args.work.now c.args.names.now c.args.i c.requires.has_state c.requires.i_bound.0 c.requires.i_bound.1 in
    (omega arith, h)

pub returns-then-not-asks : goal.returns-then-not-asks
returns-then-not-asks c = rw c.push.ensures (reading.noted_one c.args.work.now c.staged_name-name.result.bytes c.args.names.now c.args.i c.entry.result c.asks.result c.requires.i_bound.0 c.requires.i_bound.1 c.entry.ensures c.in-Unread.is c.staged_name-name.ensures.reads c.asks.ensures c.if-not-asks.true)

pub returns-else-not-asks : goal.returns-else-not-asks
returns-else-not-asks c = reading.noted_asked c.args.work.now c.staged_name-name.result.bytes c.args.names.now c.args.i c.entry.result c.asks.result c.requires.i_bound.0 c.requires.i_bound.1 c.entry.ensures c.in-Unread.is c.staged_name-name.ensures.reads c.asks.ensures c.if-not-asks.false

pub returns-in_default : goal.returns-in_default
returns-in_default c = reading.noted_other c.args.work.now c.args.names.now c.args.i c.entry.result c.requires.i_bound.0 c.requires.i_bound.1 c.entry.ensures c.in_default.not-Unread
