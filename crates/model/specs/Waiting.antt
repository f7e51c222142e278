-- The edit ids that wait, and the moves waiting: how many of them wait for one booking, folded ones included. Assumes nothing.
use Rattle.std.specs.Prelude.{ℕ, List, [], ◌∷◌, ◌++◌, length}
use Rattle.model.specs.Seam.{ResourceId}
use Rattle.model.specs.Edits.{EditId}
use Rattle.model.specs.State.{Map, Queue, SyncState}
use Rattle.model.specs.Maps.{by_name, get}
use Rattle.model.specs.Machine.{match◌none:◌some:◌}
use Rattle.model.specs.Sync.{ids_of}

-- the ids of a queue, entry after entry: each entry's own, then those folded into it
unfoldable pub queue_ids : Queue → List EditId
queue_ids [] = []
queue_ids (p ∷ queue) = ids_of p ++ queue_ids queue

-- the ids of all queues, in the order of their resources
unfoldable pub ids_over : Map ResourceId Queue → List EditId
ids_over [] = []
ids_over (e ∷ m) = queue_ids e.1 ++ ids_over m

unfoldable pub waiting_ids : SyncState → List EditId
waiting_ids s = ids_over s.edits

-- the moves waiting for a resource: how many ids its queue has, 0 if it has no queue
unfoldable pub moves_waiting : ResourceId → SyncState → ℕ
moves_waiting resource s = match get by_name resource s.edits none: 0 some: (λ queue. length (queue_ids queue))
