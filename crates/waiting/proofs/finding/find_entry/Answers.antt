use Rattle.state.specs.Values.{name_of}
use Rattle.waiting.proofs.Laws as laws
use Rattle.waiting.proofs.finding.find_entry.Goals as goal

pub returns-in_err-i : goal.returns-in_err-i
returns-in_err-i c = laws.not_there (name_of c.args.name.bytes) c.args.work.now c.args.j _ c.in_err-i.ensures c.from_residual.ensures

pub slot_at-requires : goal.slot_at-requires
slot_at-requires c = laws.index_below (name_of c.args.name.bytes) c.args.work.now c.in_ok-i.i c.args.j c.requires.has_state (laws.slot_is _ _ _ _ c.in_ok-i.ensures)

pub returns : goal.returns
returns c = laws.found (name_of c.args.name.bytes) c.args.work.now c.in_ok-i.i c.args.j _ c.requires.named.ok (laws.slot_is _ _ _ _ c.in_ok-i.ensures) c.slot_at.ensures
