use Rattle.frame.specs.Meaning.{meant_edit}
use Rattle.state.specs.Values.{name_of}
use Rattle.queues.proofs.Heads as heads
use Prim.Native.Nat.{◌-◌}
use Rattle.queues.proofs.Folding as folding
use native.Mathlib.Omega.{arith}
use Rattle.queues.proofs.coalescing.coalesced_with.Goals as goal

pub returns-then-n-lt2 : goal.returns-then-n-lt2
returns-then-n-lt2 c = folding.newest_none (name_of c.args.name.bytes) (meant_edit c.args.frame.now c.args.edit) c.waiting_count-n.ensures c.if-n-lt2.true

pub coalesce-requires : goal.coalesce-requires
coalesce-requires c = (let h = heads.keyed_room (c.waiting_count-n.result - 1) (name_of c.args.name.bytes) c.args.work.now c.in-Some.at c.find_entry.result c.requires.has_state c.find_entry.ensures c.in-Some.is in let L = c.requires.has_state.keeps.long in omega arith, c.requires.named.1, c.requires.named.2)

pub returns-in-Some : goal.returns-in-Some
returns-in-Some c = folding.newest_so (name_of c.args.name.bytes) (meant_edit c.args.frame.now c.args.edit) c.waiting_count-n.ensures c.if-n-lt2.false c.in-Some.at c.find_entry.ensures c.in-Some.is c.coalesce.ensures

pub returns-in-None : goal.returns-in-None
returns-in-None c = folding.newest_missing (name_of c.args.name.bytes) (meant_edit c.args.frame.now c.args.edit) c.waiting_count-n.ensures c.if-n-lt2.false c.find_entry.ensures c.in-None.is
