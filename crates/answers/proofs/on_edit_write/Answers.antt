use native.Mathlib.Omega.{arith}
use mathlib.Core.Path.{◌≡◌}
use mathlib.Core.Bool.{true}
use Rattle.answers.proofs.Writes as writes
use Rattle.answers.proofs.on_edit_write.Goals as goal

pub event_part-event-requires : goal.event_part-event-requires
event_part-event-requires c = writes.written_ok _ _ c.in-Written.is c.requires.named.1

pub written-requires : goal.written-requires
written-requires c = record { has_state = c.requires.has_state; named = (c.requires.named.0, writes.is_event _ (writes.written_ok _ _ c.in-Written.is c.requires.named.1) c.event_part-event.ensures) }

pub returns-in-Written : goal.returns-in-Written
returns-in-Written c = writes.outcome_as _ _ c.args.frame.now _ c.in-Written.is (writes.wrote _ _ c.args.frame.now _ (c.written.ensures _ (writes.written_ok _ _ c.in-Written.is c.requires.named.1) c.event_part-event.ensures))

pub returns-in-Listed : goal.returns-in-Listed
returns-in-Listed c = let e : writes.leaves c.args.outcome ≡ true = grind arith in writes.unwritten _ _ c.args.frame.now c.args.outcome e c.read_again.ensures
