-- Change request 1/13: the moves waiting. What their numbers say of the ids on the waiting side of demand 3. Assumes nothing.
use Rattle.std.specs.Prelude.{◌≡◌, suc, ◌*◌, ◌≤◌, ◌↔◌, length, None}
use Rattle.model.specs.Seam.{ResourceId}
use Rattle.model.specs.Edits.{EditId}
use Rattle.model.specs.State.{SyncState}
use Rattle.model.specs.Limits.{Limits}
use Rattle.model.specs.Maps.{by_name, map, get, keys}
use Rattle.model.specs.Machine.{sum}
use Rattle.model.specs.Waiting.{waiting_ids, moves_waiting}
use Rattle.model.specs.WellFormed.{WellFormed}
use Rattle.model.specs.Demands.{how_often, waiting}

pub record WaitingNumbers (limits : Limits) (s : SyncState) : Type 0 where
  -- an id is waiting, in demand 3's words, as often as it stands in the list of all ids that wait
  pub listed : (id : EditId) → waiting id s ≡ how_often id (waiting_ids s)
  -- the sum over all bookings is the length of that list
  pub summed : sum (map (λ resource. moves_waiting resource s) (keys s.edits)) ≡ length (waiting_ids s)
  -- a booking's count is 0 exactly where it has no queue
  pub none_waits : (resource : ResourceId) → (moves_waiting resource s ≡ 0) ↔ (get by_name resource s.edits ≡ None)
  -- so many at most: each entry's own, and those folded into it
  pub few : length (waiting_ids s) ≤ limits.waiting * suc limits.absorbed

abbrev pub EveryWaitingNumber : Type 0
EveryWaitingNumber = (limits : Limits) (s : SyncState) → WellFormed limits s → WaitingNumbers limits s
