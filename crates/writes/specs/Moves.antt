-- The entries behind the head of a queue that follow their resource to another name, one at a time. Assumes nothing.
use Rattle.std.specs.Prelude.{ℕ, zero, suc, ◌+◌, ◌-◌, ◌≡◌, List, Bool, length}
use Rattle.model.specs.Seam.{ResourceId}
use Rattle.model.specs.State.{SyncState}
use Rattle.model.specs.Maps.{when◌then◌else◌, is_some_and}
use Rattle.model.specs.Sync.{is_create}
use Rattle.state.specs.Contract.{Keeps}
use Rattle.waiting.specs.Queues.{queue, nth, moved}

-- entry j creates, and so stays
unfoldable pub stays_at : ResourceId → ℕ → SyncState → Bool
stays_at from j s = is_some_and (λ p. is_create p.edit.operation) (nth j (queue from s))

unfoldable pub one_moved : ResourceId → ℕ → ResourceId → SyncState → SyncState
one_moved from j to s = when stays_at from j s then s else moved from j to s

-- where the next one stands
unfoldable pub place_after : ResourceId → ℕ → SyncState → ℕ
place_after from j s = when stays_at from j s then j + 1 else j

pub record MovesOne (from : ResourceId) (j : ℕ) (to : ResourceId) (w : List ℕ) (r : ℕ) (w' : List ℕ) : Type 0 where
  pub next : (s : SyncState) → Keeps s w → r ≡ place_after from j s
  pub makes : (s : SyncState) → Keeps s w → Keeps (one_moved from j to s) w'

-- n entries from j on
unfoldable pub sweep : ResourceId → ResourceId → ℕ → ℕ → SyncState → SyncState
sweep from to zero j s = s
sweep from to (suc n) j s = sweep from to n (place_after from j s) (one_moved from j to s)

-- all behind the head
abbrev pub swept : ResourceId → ResourceId → SyncState → SyncState
swept from to s = sweep from to (length (queue from s) - 1) 1 s
