-- One queue as time passes: which entries are told, and which are left. Assumes nothing.
use Rattle.std.specs.Prelude.{ℕ, ◌++◌, Bool, not, ◌&&◌, take, drop}
use Rattle.model.specs.Seam.{ResourceId}
use Rattle.model.specs.Edits.{Timestamp}
use Rattle.model.specs.State.{Queue, SyncState}
use Rattle.model.specs.Maps.{when◌then◌else◌, any, is_some_and, keys, values}
use Rattle.model.specs.Machine.{Machine, Run, for_each}
use Rattle.model.specs.Sync.{due, edit_writes, tell_expired, due_entries, kept_entries, tick_resource}
use Rattle.waiting.specs.Queues.{queue, nth, without}

-- the due ones among some entries are told
abbrev pub tell_due : Timestamp → Queue → Machine → Run
tell_due at entries = for_each tell_expired (due_entries at entries)

-- a queue without its due entries, but with its first n
abbrev pub kept_behind : ℕ → Timestamp → Queue → Queue
kept_behind n at q = take n q ++ kept_entries at (drop n q)

-- a queue without its j-th entry, if that is due
abbrev pub unless_due : Timestamp → ℕ → Queue → Queue
unless_due at j q = when is_some_and (λ p. due at p.edit) (nth j q) then without j q else q

-- whether the head is to go: not while its write is in flight
abbrev pub head_falls : Timestamp → ResourceId → SyncState → Bool
head_falls at r s = is_some_and (λ p. due at p.edit) (nth 0 (queue r s)) && not (any (edit_writes r) (values s.in_flight))

-- for each resource that has a queue
abbrev pub tick_each : Timestamp → Machine → Run
tick_each at m = for_each (tick_resource at) (keys m.state.edits) m
