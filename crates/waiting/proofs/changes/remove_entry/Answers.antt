use Rattle.state.specs.Values.{name_of}
use Rattle.waiting.proofs.Splices as splices
use Rattle.waiting.proofs.Writes as writes
use Rattle.waiting.proofs.Laws as laws
use Rattle.waiting.proofs.changes.remove_entry.Goals as goal

pub take_out-requires : goal.take_out-requires
take_out-requires c =
    let H = splices.has_slots c.requires.has_state in
    (splices.has_lent H, writes.out_below H c.in-Some.i (laws.index_count (name_of c.args.name.bytes) c.args.work.now c.in-Some.i c.args.j c.requires.has_state (laws.slot_is _ _ _ _ c.in-Some.ensures)))

pub returns-in-Some : goal.returns-in-Some
returns-in-Some c = laws.removes (name_of c.args.name.bytes) c.args.work.now c.take_out.new.work c.in-Some.i c.args.j c.requires.named.ok c.requires.has_state (laws.slot_is _ _ _ _ c.in-Some.ensures) c.take_out.ensures

pub returns-in_default : goal.returns-in_default
returns-in_default c = laws.removes_none (name_of c.args.name.bytes) c.args.work.now c.args.j c.requires.named.ok c.in_default.ensures
