-- Parts of `resume`. Assumes nothing.
use Rattle.std.specs.Prelude.{[]}
use Rattle.model.specs.Maps.{keys}
use Rattle.model.specs.Machine.{Machine, Run, for_each, set_in_flight}
use Rattle.model.specs.Sync.{doubt, restart_edit}
use Rattle.flights.specs.Asked.{lost}

-- what was in flight is lost, and the resources of the Refreshes among it are doubted
abbrev pub doubt_lost : Machine → Run
doubt_lost m = for_each doubt (lost m.state) (set_in_flight [] m)

-- every queue's head is started again
abbrev pub restart_edits : Machine → Run
restart_edits m = for_each restart_edit (keys m.state.edits) m
