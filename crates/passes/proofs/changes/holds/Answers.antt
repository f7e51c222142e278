use Rattle.observe.proofs.Observing as observing
use Rattle.passes.proofs.Listing as laws
use native.Mathlib.Omega.{arith}
use Rattle.passes.proofs.changes.holds.Goals as goal

pub overflow_add-at : goal.overflow_add-at
overflow_add-at c = let h = observing.held_room _ c.args.work.now c.find_record.result c.in-Some.at c.requires.has_state c.find_record.ensures c.in-Some.is in omega arith

pub version_at-requires : goal.version_at-requires
version_at-requires c = observing.held_stands _ c.args.work.now c.find_record.result c.in-Some.at c.requires.has_state c.find_record.ensures c.in-Some.is

pub returns-in-Some : goal.returns-in-Some
returns-in-Some c = laws.held_is _ c.args.revision.now c.args.work.now _ _ c.in-Some.at c.find_record.result _ c.find_record.ensures c.in-Some.is c.version_at.ensures.version_of c.has_revision.ensures

pub returns-in-None : goal.returns-in-None
returns-in-None c = laws.not_held _ c.args.revision.now c.args.work.now c.find_record.result c.find_record.ensures c.in-None.is
