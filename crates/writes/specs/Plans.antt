-- What a merge of a waiting entry is planned from, by its bytes in the work buffer, and the arrays that a merge fills. Assumes nothing.
use Rattle.std.specs.Prelude.{ℕ, ◌+◌, ◌≤◌, ◌≡◌, List, length, take, Option, None}
use Rattle.model.specs.Event.{NormalizedEvent, ProviderEvent}
use Rattle.model.specs.Parts.{Role, MergeOutcome}
use Rattle.model.specs.Seam.{ResourceId, Request}
use Rattle.model.specs.State.{SyncState, Purpose}
use Rattle.model.specs.Maps.{when◌then◌else◌}
use Rattle.model.specs.Machine.{Machine, Run, ok, request, match◌none:◌some:◌}
use Rattle.model.specs.Formats.{fields_f}
use Rattle.model.specs.Sync.{change_front, head, plan, finish}
use Rattle.state.specs.Contract.{Reads}
use Rattle.waiting.specs.Queues.{queue, put_queue, planned, nth}
use Rattle.waiting.specs.declared.readers.OperationCase.{OperationCase}
use Rattle.waiting.specs.Reading.{operation_case_of}
use Rattle.frame.specs.Read.{skips, start}
use Rattle.comparison.specs.Bytes.{span}
use Rattle.merge.specs.Given.{Given}

-- the entry at `at`: its operation behind its case, where base stands first, and then ours
unfoldable pub operation_part : List ℕ → ℕ → List ℕ
operation_part w at = span w (at + 67) (at + 1535)

unfoldable pub ours_part : List ℕ → ℕ → List ℕ
ours_part w at = span (operation_part w at) (skips fields_f (operation_part w at) start).at 1468

unfoldable pub role_part : List ℕ → ℕ → List ℕ
role_part w at = span w (at + 1535) (at + 1569)

-- the entry is an update from b to o by a writer, and the bytes are the event t
abbrev pub GivenAt : (w : List ℕ) (at : ℕ) (theirs : List ℕ) (b o : NormalizedEvent) (t : ProviderEvent) (by : Role) → Type 0
GivenAt w at theirs b o t by = Given (operation_part w at) (ours_part w at) theirs (role_part w at) b o t by

-- the first n bytes of an array are x
pub record Filled (a : List ℕ) (n : ℕ) (x : List ℕ) : Type 0 where
  pub fits : n ≤ length a
  pub bytes : take n a ≡ x

-- the head of a queue with a merge's reports
abbrev pub with_merge : ResourceId → MergeOutcome → SyncState → SyncState
with_merge r merged s = put_queue r (change_front (planned merged.conflicts merged.refused) (queue r s)) s

-- some update and some event
pub record HasGiven (w : List ℕ) (at : ℕ) (theirs : List ℕ) : Type 0 where
  pub base : NormalizedEvent
  pub ours : NormalizedEvent
  pub event : ProviderEvent
  pub role : Role
  pub given : GivenAt w at theirs base ours event role

-- the case of the head's operation
abbrev pub HeadCase : ResourceId → List ℕ → Option OperationCase → Type 0
HeadCase r w c = Reads (λ s. operation_case_of (nth 0 (queue r s))) w c

-- `plan_update` from its merge on
unfoldable pub send_merged : ResourceId → ProviderEvent → MergeOutcome → Machine → Run
send_merged r theirs merged m =
    when merged.changed
    then request (Purpose.EditWrite r) (Request.Update r theirs.revision merged.event) m
    else finish r None m

-- the last line of `edit_read_found`
unfoldable pub plan_head : ResourceId → Option ProviderEvent → Machine → Run
plan_head r theirs m = match head r m none: ok m some: (λ p. plan r p p.edit.operation theirs m)
