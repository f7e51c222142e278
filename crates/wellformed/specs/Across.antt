-- The rules of a well-formed state that no table keeps by itself. Assumes nothing.
use Rattle.std.specs.Prelude.{T, ltb, eqb}
use Rattle.model.specs.State.{SyncState}
use Rattle.model.specs.Maps.{keys, values}
use Rattle.model.specs.WellFormed.{all, edit_requests, has_queue}

pub record Across (s : SyncState) : Type 0 where
  -- in_flight numbers are below `next_request`
  pub below : T (all (λ id. ltb id s.next_request) (keys s.in_flight))
  -- each queue has exactly one EditRead or EditWrite in flight, other resources none
  pub one_each : T (all (λ resource. eqb (edit_requests resource s) 1) (keys s.edits))
  pub queued : T (all (has_queue s) (values s.in_flight))
