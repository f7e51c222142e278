use Rattle.restarts.proofs.Laws as laws
use Rattle.machine.proofs.Runs as runs
use Rattle.restarts.proofs.doubt_lost.Goals as goal

pub doubt_each-requires : goal.doubt_each-requires
doubt_each-requires c = record { has_state = runs.edited c.clear_in_flight.ensures c.requires; named = laws.lost_named _ _ c.requires c.refreshes-names.ensures }

pub returns : goal.returns
returns c = laws.doubts_lost _ _ c.requires c.refreshes-names.ensures c.clear_in_flight.ensures c.doubt_each.ensures
