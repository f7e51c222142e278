-- What the readers of one entry give: of the entry, or of no entry where a queue has not so many. Assumes nothing.
use Rattle.std.specs.Prelude.{ℕ, zero, suc, ◌≡◌, List, [], ◌∷◌, Bool, true, false, length, get_or, Option, Some, None}
use Rattle.model.specs.Event.{Text}
use Rattle.model.specs.Seam.{ResourceId}
use Rattle.model.specs.Parts.{Role}
use Rattle.model.specs.Edits.{Operation, Timestamp}
use Rattle.model.specs.State.{Pending, SyncState}
use Rattle.model.specs.Limits.{document01}
use Rattle.model.specs.Formats.{short_text}
use Rattle.model.specs.Sync.{ids_of}
use Rattle.state.specs.Layout.{name_slot, pending_slot}
use Rattle.state.specs.Contract.{Keeps}
use Rattle.waiting.specs.declared.readers.OperationCase.{OperationCase}
use Rattle.waiting.specs.Queues.{queue, nth}

-- the byte at o of its slot
unfoldable pub entry_byte : ResourceId → ℕ → Option Pending → Option ℕ
entry_byte r o None = None
entry_byte r o (Some p) = Some (get_or (pending_slot document01 r p) o 0)

-- the case of its operation
abbrev pub case_of : Operation → OperationCase
case_of (Operation.Create event) = OperationCase.Create
case_of (Operation.Update base ours) = OperationCase.Update
case_of Operation.Delete = OperationCase.Delete

unfoldable pub operation_case_of : Option Pending → Option OperationCase
operation_case_of None = None
operation_case_of (Some p) = Some (case_of p.edit.operation)

unfoldable pub by_attendee : Role → Bool
by_attendee Role.Owner = false
by_attendee (Role.Attendee address) = true

unfoldable pub expiry_of : Option Pending → Option Timestamp
expiry_of None = None
expiry_of (Some p) = p.edit.expires_at

-- its own id and those that it has absorbed
unfoldable pub ids_number : Option Pending → ℕ
ids_number None = 0
ids_number (Some p) = length (ids_of p)

unfoldable pub nth_id : ℕ → List Text → Option Text
nth_id k [] = None
nth_id zero (x ∷ xs) = Some x
nth_id (suc k) (x ∷ xs) = nth_id k xs

-- the k-th of them, as a name of 33 bytes
pub record ReadsId (r : ResourceId) (j k : ℕ) (w b : List ℕ) : Type 0 where
  pub is : (s : SyncState) → Keeps s w → (p : Pending) → nth j (queue r s) ≡ Some p → (id : Text) → nth_id k (ids_of p) ≡ Some id → (b ≡ name_slot id) × short_text.Ok id
