-- The statements of `enqueue` by themselves, for the queue that stands under the edit's resource. Assumes nothing.
use Rattle.std.specs.Prelude.{[], ◌∷◌, ◌++◌, leb}
use Rattle.model.specs.Seam.{ResourceId}
use Rattle.model.specs.Edits.{Operation, Edit}
use Rattle.model.specs.State.{SyncState}
use Rattle.model.specs.Maps.{when◌then◌else◌, by_name, get}
use Rattle.model.specs.Machine.{Machine, Run, refused, ok, match◌none:◌some:◌, queue_of, set_queue, entries}
use Rattle.model.specs.Sync.{new_pending, is_create, absorb, append, cancel, back, without_back}
use Rattle.waiting.specs.Queues.{change_last, may_absorb}

-- `append` up to its last line
unfoldable pub append_entry : Edit → Machine → Run
append_entry edit m =
    let m : Machine = set_queue edit.resource (queue_of edit.resource m ++ new_pending edit ∷ []) m in
    when leb (entries m) m.limits.waiting then ok m else refused 5

unfoldable pub append_to : Edit → Machine → Run
append_to edit m = append (queue_of edit.resource m) edit m

-- the newest entry of the queue takes the edit in
unfoldable pub fold_last : Operation → Edit → Machine → Run
fold_last operation edit m =
    when may_absorb operation edit (queue_of edit.resource m)
    then ok (set_queue edit.resource (change_last (absorb operation edit) (queue_of edit.resource m)) m) else refused 5

-- the newest entry and the edit cancel each other
unfoldable pub cancel_last : Edit → Machine → Run
cancel_last edit m = match back (queue_of edit.resource m) none: ok m some: (λ p. cancel p (without_back (queue_of edit.resource m)) edit m)

-- the resource that an edit is for
unfoldable pub target_of : Edit → SyncState → ResourceId
target_of edit s =
    when is_create edit.operation then edit.resource
    else (match get by_name edit.resource s.aliases none: edit.resource some: (λ to. to))
