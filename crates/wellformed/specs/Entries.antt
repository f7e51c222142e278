-- The region of the waiting entries: a count byte and slots, each the fields of one entry in their widths. Assumes nothing.
use Rattle.std.specs.Prelude.{ℕ, ◌≡◌, List, Bool, Option}
use Rattle.format.specs.Format.{Format, ◌⊗◌, option, list, padded, stamp, bool}
use Rattle.spans.specs.Compare.{order}
use Rattle.std.specs.Ordering.{is_le}
use Rattle.strides.specs.Walk.{neighbours}
use Rattle.tables.specs.Table.{Table, text}
use Rattle.model.specs.Seam.{ResourceId}
use Rattle.model.specs.Parts.{Role, Conflict, Refused}
use Rattle.model.specs.Edits.{EditId, Timestamp, Operation}
use Rattle.model.specs.State.{Map, Queue}
use Rattle.model.specs.Limits.{document01}
use Rattle.model.specs.Formats.{resource_id, short_text, operation_f, role_f, conflicts_f, refusals_f}
use Rattle.state.specs.Layout.{edit_slots, region}
use Rattle.state.specs.Fits.{EditsFit}

-- resource, id, operation, role, expiry, conflicts, refused, collided, absorbed
abbrev pub Entry : Type 0
Entry = ResourceId × (EditId × (Operation × (Role × (Option Timestamp × (List Conflict × (List Refused × (Bool × List EditId)))))))

unfoldable pub entry_f : Format Entry
entry_f =
    padded 33 resource_id
    ⊗ padded 33 short_text
    ⊗ padded 1469 operation_f
    ⊗ padded 34 role_f
    ⊗ padded 9 (option stamp)
    ⊗ padded 3072 conflicts_f
    ⊗ padded 1024 refusals_f
    ⊗ padded 1 bool
    ⊗ padded 265 (list 8 short_text)

unfoldable pub entries_f : Format (List Entry)
entries_f = padded 35641 (list 6 entry_f)

-- the key of one slot is not above that of the next
abbrev pub in_order : List ℕ → List ℕ → Bool
in_order s u = is_le (order (text s) (text u))

-- keys never fall: slots with one key stand side by side
abbrev pub ordered : Table → Bool
ordered = neighbours in_order

-- the region holds some queues
pub record QueuesIn (b : List ℕ) : Type 0 where
  pub edits : Map ResourceId Queue
  pub fit : EditsFit document01 edits
  pub bytes : b ≡ region 6 5940 (edit_slots document01 edits)
