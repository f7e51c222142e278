-- Parts of `put_record` and `observe`. Assumes nothing.
use Rattle.std.specs.Prelude.{Bool, true}
use Rattle.model.specs.Event.{ProviderEvent}
use Rattle.model.specs.Seam.{ResourceId}
use Rattle.model.specs.State.{SyncState}
use Rattle.model.specs.Maps.{when◌then◌else◌, by_name, get}
use Rattle.model.specs.Machine.{Machine, Run, ok, match◌none:◌some:◌, see, watch}
use Rattle.model.specs.Sync.{replaces, pass_done}

-- whether what is held under a name gives way to an event
abbrev pub gives_way : ResourceId → ProviderEvent → SyncState → Bool
gives_way resource event s = match get by_name resource s.records none: true some: (λ held. replaces event held)

abbrev pub see_or_watch : ResourceId → Machine → Run
see_or_watch id m = when pass_done m then see id m else watch id m

abbrev pub watch_unless_done : ResourceId → Machine → Run
watch_unless_done resource m = when pass_done m then ok m else watch resource m
