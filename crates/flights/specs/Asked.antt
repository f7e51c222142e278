-- Requests in flight by value. Assumes nothing.
use Rattle.std.specs.Prelude.{ℕ, zero, suc, List as Vec, take}
use Rattle.model.specs.Event.{Text}
use Rattle.model.specs.State.{SyncState}
use Rattle.model.specs.Maps.{filter_map, values}
use Rattle.model.specs.Sync.{refreshed}
use Rattle.state.specs.declared.Purpose.{Purpose}
use Rattle.state.specs.declared.Purpose.TheVariants.{List, PassRead, EditRead, EditWrite, Refresh}

-- the purpose whose kind has this byte, with the name in these
abbrev pub purpose_from : ℕ → Vec ℕ → Purpose
purpose_from zero b = List
purpose_from (suc zero) b = PassRead (record { bytes = b })
purpose_from (suc (suc zero)) b = EditRead (record { bytes = b })
purpose_from (suc (suc (suc zero))) b = EditWrite (record { bytes = b })
purpose_from (suc (suc (suc (suc n)))) b = Refresh (record { bytes = b })

-- the names of the Refreshes among the first i in flight
abbrev pub lost_of : ℕ → SyncState → Vec Text
lost_of i s = filter_map refreshed (values (take i s.in_flight))

-- the names of all of them
abbrev pub lost : SyncState → Vec Text
lost s = filter_map refreshed (values s.in_flight)
