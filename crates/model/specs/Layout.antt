-- The bytes of a state in its buffer: parts of fixed widths, one after the other, in the order of `SyncState`'s fields. A value
-- stands in the frame's own form with zeros behind it; a table is a count, its entries in key order and zeros; an entry starts with its
-- key. `state_layout` reads the bytes of well-formed states and no others. LayoutLaws.antt proves it lawful. Assumes nothing.
use Rattle.std.specs.Prelude.{ℕ, ◌+◌, ◌*◌, ◌≡◌, List as Vec, [], ◌∷◌, ◌++◌, Bool, eqb, Option}
use Rattle.format.specs.Format.{Format, map_got, ◌⊗◌, via, option, bool, below, list, such, padded, stamp}
use Rattle.model.specs.Seam.{RequestId, ResourceId}
use Rattle.model.specs.Parts.{Role, Conflict, Refused}
use Rattle.model.specs.Edits.{EditId, Timestamp, Operation}
use Rattle.model.specs.State.{Map, Pass, Pending, Queue, SyncState}
use Rattle.model.specs.Limits.{Limits, max_conflict_bytes, max_refused_bytes}
use Rattle.model.specs.Maps.{when◌then◌else◌, same_text}
use Rattle.model.specs.Shapes.{pass_to, pass_from, state_to, state_from}
use Rattle.model.specs.Formats.{resource_id, short_text, u64, event_f, list_from_f, operation_f, role_f, conflicts_f, refusals_f}
use Rattle.model.specs.SavedForm.{staged_f, purpose_f}
use Rattle.model.specs.Sizes.{id_bytes, text_bytes, event_bytes, operation_bytes, option_bytes, time_bytes, purpose_bytes, absorbed_bytes, entry_bytes, staged_bytes, pass_bytes}
use Rattle.model.specs.WellFormed.{rules, every}

-- a table of at most `limit` entries of `width` bytes
unfoldable pub table : {A : Type 0} → ℕ → ℕ → Format A → Format (Vec A)
table limit width entry = padded (1 + limit * width) (list limit entry)

-- ---- keys

unfoldable pub name_key_layout : Format ResourceId
name_key_layout = padded id_bytes resource_id

-- a request number as a key has its length before it, as a name has: the byte 8, then the eight bytes
unfoldable pub number_key_layout : Format RequestId
number_key_layout = via (λ p. p.1) (λ n. (8, n)) (such (λ k. eqb k 8) (below 9) ⊗ u64)

-- ---- the open pass

unfoldable pub pass_layout : Limits → Format Pass
pass_layout limits = via pass_to pass_from (
    bool
    ⊗ padded option_bytes list_from_f
    ⊗ table limits.staged (id_bytes + staged_bytes) (name_key_layout ⊗ padded staged_bytes staged_f)
    ⊗ table limits.seen id_bytes name_key_layout
    ⊗ table limits.observed id_bytes name_key_layout
    ⊗ padded option_bytes (option short_text))

-- ---- the queues: one table of entries, by resource and then in the queue's order

abbrev pub EntryFields : Type 0
EntryFields = ResourceId × (EditId × (Operation × (Role × (Option Timestamp × (Vec Conflict × (Vec Refused × (Bool × Vec EditId)))))))

abbrev pub entry_to : EntryFields → Pending
entry_to = λ (resource, (id, (operation, (role, (expires_at, (conflicts, (refused, (collided, absorbed)))))))). record {
  edit = record { id = id; resource = resource; operation = operation; role = role; expires_at = expires_at };
  conflicts = conflicts;
  refused = refused;
  collided = collided;
  absorbed = absorbed;
}

abbrev pub entry_from : Pending → EntryFields
entry_from p = (p.edit.resource, (p.edit.id, (p.edit.operation, (p.edit.role, (p.edit.expires_at, (p.conflicts, (p.refused, (p.collided, p.absorbed))))))))

-- an entry starts with its resource, the key
unfoldable pub entry_layout : Limits → Format Pending
entry_layout limits = via entry_to entry_from (
    name_key_layout
    ⊗ padded text_bytes short_text
    ⊗ padded operation_bytes operation_f
    ⊗ padded option_bytes role_f
    ⊗ padded time_bytes (option stamp)
    ⊗ padded max_conflict_bytes conflicts_f
    ⊗ padded max_refused_bytes refusals_f
    ⊗ bool
    ⊗ padded (absorbed_bytes limits) (list limits.absorbed short_text))

-- all entries, queue after queue
unfoldable pub entries_of : Map ResourceId Queue → Vec Pending
entries_of [] = []
entries_of (e ∷ m) = e.1 ++ entries_of m

-- the queues of such entries: neighbours with one resource are one queue
unfoldable pub put_first : Pending → Map ResourceId Queue → Map ResourceId Queue
put_first p [] = (p.edit.resource, p ∷ []) ∷ []
put_first p (e ∷ m) =
    when same_text p.edit.resource e.0 then (e.0, p ∷ e.1) ∷ m else (p.edit.resource, p ∷ []) ∷ e ∷ m

unfoldable pub queues_of : Vec Pending → Map ResourceId Queue
queues_of [] = []
queues_of (p ∷ l) = put_first p (queues_of l)

unfoldable pub queues_layout : Limits → Format (Map ResourceId Queue)
queues_layout limits =
    let entries : Format (Vec Pending) = table limits.waiting (entry_bytes limits) (entry_layout limits) in
    record {
      Ok = λ m. entries.Ok (entries_of m) × (queues_of (entries_of m) ≡ m);
      enc = λ m. entries.enc (entries_of m);
      dec = λ s. map_got queues_of (entries.dec s);
    }

-- ---- the state

unfoldable pub parts_layout : Limits → Format SyncState
parts_layout limits = via state_to state_from (
    table limits.records (id_bytes + event_bytes) (name_key_layout ⊗ padded event_bytes event_f)
    ⊗ padded option_bytes (option short_text)
    ⊗ padded (1 + pass_bytes limits) (option (pass_layout limits))
    ⊗ queues_layout limits
    ⊗ table limits.in_flight (9 + purpose_bytes) (number_key_layout ⊗ padded purpose_bytes purpose_f)
    ⊗ u64
    ⊗ table limits.learned (id_bytes + 8) (name_key_layout ⊗ u64)
    ⊗ u64
    ⊗ padded time_bytes (option stamp)
    ⊗ table limits.aliases (id_bytes + id_bytes) (name_key_layout ⊗ name_key_layout))

unfoldable pub state_layout : Limits → Format SyncState
state_layout limits = such (λ s. every (rules limits s)) (parts_layout limits)
