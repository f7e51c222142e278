-- The staged names that are to be read, and the requests for them. Assumes nothing.
use Rattle.std.specs.Prelude.{ℕ, ◌≤◌, List as Vec, Bool, not, ◌&&◌, length, take}
use Rattle.model.specs.Event.{Text}
use Rattle.model.specs.Seam.{ResourceId, Request}
use Rattle.model.specs.State.{Staged, Purpose, SyncState}
use Rattle.model.specs.Maps.{any, filter, keys, map, values}
use Rattle.model.specs.Machine.{Machine, Run, request}
use Rattle.model.specs.Sync.{is_unread, pass_reads}
use Rattle.state.specs.Layout.{name_slot}
use Rattle.state.specs.Contract.{Reads}
use Rattle.staged.specs.Staging.{staged_of}

-- whether a staged entry is to be read: it is unread, and no read of it is in flight
abbrev pub to_read : SyncState → ResourceId × Staged → Bool
to_read s e = is_unread e.1 && not (any (pass_reads e.0) (values s.in_flight))

-- the names to be read among the first i staged
abbrev pub unread_of : ℕ → SyncState → Vec Text
unread_of i s = keys (filter (to_read s) (take i (staged_of s)))

-- all of them
abbrev pub all_unread : SyncState → Vec Text
all_unread s = keys (filter (to_read s) (staged_of s))

-- the names to be read among the first i staged: at most i
pub record Noted (i : ℕ) (w : Vec ℕ) (names : Vec (Vec ℕ)) : Type 0 where
  pub low : length names ≤ i
  pub is : Reads (λ s. map name_slot (unread_of i s)) w names

abbrev pub read_for_pass : ResourceId → Machine → Run
read_for_pass resource = request (Purpose.PassRead resource) (Request.Read resource)
