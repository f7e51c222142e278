use Rattle.writes.proofs.Planning as planning
use Rattle.writes.proofs.same_as_head.Goals as goal

pub invariant_of-same_fields : goal.invariant_of-same_fields
invariant_of-same_fields c = record { within = planning.found_room _ c.requires.has_state c.find_entry.ensures c.in-Some.is }

pub returns-in-Some : goal.returns-in-Some
returns-in-Some c = planning.fields_found _ c.requires.has_state c.find_entry.ensures c.in-Some.at c.in-Some.is c.same_fields.ensures

pub returns-in-None : goal.returns-in-None
returns-in-None c = planning.fields_missing _ c.requires.has_state c.find_entry.ensures c.in-None.is
