use mir.Facts.{to_z-of_z}
use Rattle.state.specs.Values.{name_of}
use Rattle.machine.proofs.Runs as runs
use Rattle.clock.proofs.Ticking as ticking
use Rattle.clock.proofs.tick_resource.Goals as goal

pub drop_due-requires : goal.drop_due-requires
drop_due-requires c = record { has_state = runs.edited c.drop_in_flight.ensures c.requires.has_state; named = c.requires.named }

pub start_edit-requires : goal.start_edit-requires
start_edit-requires c = record { has_state = runs.edited c.drop_due.ensures (runs.edited c.drop_in_flight.ensures c.requires.has_state); named = c.requires.named }

pub returns-then-head_falls : goal.returns-then-head_falls
returns-then-head_falls c = ticking.resource_at (name_of c.args.name.bytes) (to_z-of_z c.ranges.at) (ticking.tick_fallen _ _ c.requires.has_state c.head_falls.ensures c.if-head_falls.true c.tell_due-q.ensures c.drop_in_flight.ensures c.drop_due.ensures c.start_edit.ensures)

pub returns : goal.returns
returns c = ticking.resource_at (name_of c.args.name.bytes) (to_z-of_z c.ranges.at) (ticking.tick_spared _ _ c.requires.has_state c.head_falls.ensures c.if-head_falls.false c.tell_due-q-2.ensures c.drop_due-2.ensures)
