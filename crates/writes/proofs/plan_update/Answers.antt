use Rattle.std.specs.Prelude.{Some}
use Rattle.writes.proofs.Planning as planning
use Rattle.writes.proofs.plan_update.Goals as goal

pub invariant_of-plan_update_at : goal.invariant_of-plan_update_at
invariant_of-plan_update_at c = record { within = planning.entry_room _ _ c.requires.has_state c.requires.named.2 c.find_entry.ensures c.in-Some.is }

pub plan_update_at-requires : goal.plan_update_at-requires
plan_update_at-requires c = record { has_state = c.requires.has_state; named = (c.requires.named.0, planning.update_given _ _ c.requires.has_state c.requires.named.2 c.find_entry.ensures c.in-Some.is c.requires.named.1) }

pub returns-in-Some : goal.returns-in-Some
returns-in-Some c = planning.plan_updates _ _ c.requires.has_state c.requires.named.2 c.find_entry.ensures c.in-Some.is c.plan_update_at.ensures

pub returns-in-None : goal.returns-in-None
returns-in-None c = λ t k e. planning.plan_missing _ (Some t) c.find_entry.ensures c.in-None.is
