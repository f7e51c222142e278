-- What `coalesce` answers, and the cases of `fold_operation` by themselves. Assumes nothing.
use Rattle.std.specs.Prelude.{ℕ, ◌≡◌, List, ◌++◌, Option, Some, None}
use Rattle.format.specs.Format.{option}
use Rattle.model.specs.Event.{NormalizedEvent, ProviderEvent}
use Rattle.model.specs.Edits.{Operation}
use Rattle.model.specs.Formats.{same, short_text, u32, ids_f, fields_f, operation_f}
use Rattle.model.specs.Maps.{when◌then◌else◌}
use Rattle.model.specs.Sync.{Coalesced, with_fields}
use Rattle.queues.specs.declared.coalescing.Folded.{Folded}
use Rattle.queues.specs.declared.coalescing.Folded.TheVariants.{Apart, Into, Cancelled}
use Rattle.queues.specs.Parts.{Filled}

-- the bytes of an event before its fields
abbrev pub event_front : ProviderEvent → List ℕ
event_front e = ids_f.enc e.ids ++ ((option short_text).enc e.revision ++ u32.enc e.mapper_version)

-- an update behind an update, and behind a create
unfoldable pub fold_update : (base ours from to : NormalizedEvent) → Option Coalesced
fold_update base ours from to = when same fields_f from ours then Some (Coalesced.Into (Operation.Update base to)) else None

unfoldable pub fold_create : ProviderEvent → (from to : NormalizedEvent) → Option Coalesced
fold_create event from to = when same fields_f from event.fields then Some (Coalesced.Into (Operation.Create (with_fields to event))) else None

-- the folded operation's bytes are the first n of the buffer
pub record FoldedInto (n : ℕ) (b : List ℕ) (x : Option Coalesced) : Type 0 where
  pub operation : Operation
  pub is : x ≡ Some (Coalesced.Into operation)
  pub ok : operation_f.Ok operation
  pub bytes : Filled (operation_f.enc operation) b n

-- what an answer stands for
unfoldable pub Folds : Folded → List ℕ → Option Coalesced → Type 0
Folds Apart b x = x ≡ None
Folds (Into n) b x = FoldedInto n b x
Folds Cancelled b x = x ≡ Some Coalesced.Cancelled

pub record FoldedAs (r : Folded) (b : List ℕ) (x : Option Coalesced) : Type 0 where
  pub is : Folds r b x
