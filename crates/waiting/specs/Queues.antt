-- The queues of a state: the model's `queue_of`, `set_queue` and `entries` without the machine around them. Assumes nothing.
use Rattle.std.specs.Prelude.{ℕ, zero, suc, ◌+◌, List, [], ◌∷◌, ◌++◌, Bool, true, leb, ltb, if◌then◌else◌, length, take, drop, Option, Some, None}
use Rattle.model.specs.Seam.{ResourceId}
use Rattle.model.specs.Parts.{Conflict, Refused}
use Rattle.model.specs.State.{Map, Pending, Queue, SyncState}
use Rattle.model.specs.Maps.{by, by_name, get, insert, remove, map, values}
use Rattle.model.specs.Machine.{match◌none:◌some:◌, sum}
use Rattle.model.specs.Edits.{Edit, Operation}
use Rattle.model.specs.Sync.{with_resource, back, without_back, absorb}
use Rattle.state.specs.Setters.{with_edits}

-- ---- in the map

unfoldable pub queue_in : ResourceId → Map ResourceId Queue → Queue
queue_in r m = match get by_name r m none: [] some: (λ q. q)

unfoldable pub put_in : ResourceId → Queue → Map ResourceId Queue → Map ResourceId Queue
put_in r [] m = remove by_name r m
put_in r (p ∷ q) m = insert by_name r (p ∷ q) m

-- entries of the resources before r
unfoldable pub below : ResourceId → Map ResourceId Queue → ℕ
below r [] = 0
below r (e ∷ m) = by (by_name r e.0) 0 0 (length e.1 + below r m)

-- ---- in the state

abbrev pub queue : ResourceId → SyncState → Queue
queue r s = queue_in r s.edits

abbrev pub put_queue : ResourceId → Queue → SyncState → SyncState
put_queue r q s = with_edits (put_in r q s.edits) s

-- entries of all queues
abbrev pub all_entries : SyncState → ℕ
all_entries s = sum (map length (values s.edits))

-- the number of its j-th entry among those of all queues, if it has so many
abbrev pub slot_number : ResourceId → ℕ → SyncState → Option ℕ
slot_number r j s = if ltb j (length (queue r s)) then Some (below r s.edits + j) else None

-- ---- one queue

-- the j-th entry, counted from 0
unfoldable pub nth : ℕ → Queue → Option Pending
nth j [] = None
nth zero (p ∷ q) = Some p
nth (suc j) (p ∷ q) = nth j q

-- without its j-th entry
unfoldable pub without : ℕ → Queue → Queue
without j q = take j q ++ drop (suc j) q

-- its j-th entry changed
unfoldable pub change_at : ℕ → (Pending → Pending) → Queue → Queue
change_at j f [] = []
change_at zero f (p ∷ q) = f p ∷ q
change_at (suc j) f (p ∷ q) = p ∷ change_at j f q

-- the entry with a merge's reports: the model's `with_plan` and `without_plan`
unfoldable pub planned : List Conflict → List Refused → Pending → Pending
planned conflicts refused p = record { edit = p.edit; conflicts = conflicts; refused = refused; collided = p.collided; absorbed = p.absorbed }

-- the entry under another name
unfoldable pub renamed : ResourceId → Pending → Pending
renamed to p = record { edit = with_resource to p.edit; conflicts = p.conflicts; refused = p.refused; collided = p.collided; absorbed = p.absorbed }

-- the newest entry changed, as the model's `fold_in` does
unfoldable pub change_last : (Pending → Pending) → Queue → Queue
change_last f q = match back q none: q some: (λ p. without_back q ++ (f p ∷ []))

-- whether the newest entry may absorb one edit more
unfoldable pub may_absorb : Operation → Edit → Queue → Bool
may_absorb operation e q = match back q none: true some: (λ p. leb (length (absorb operation e p).absorbed) 8)

-- an entry behind the others of r
abbrev pub joined : ResourceId → Pending → SyncState → SyncState
joined r p s = put_queue r (queue r s ++ (p ∷ [])) s

-- the j-th entry of one queue leaves it and joins another under that one's name
unfoldable pub moved : ResourceId → ℕ → ResourceId → SyncState → SyncState
moved from j to s = match nth j (queue from s) none: s some: (λ p. joined to (renamed to p) (put_queue from (without j (queue from s)) s))
