-- Change request 9/13: an attendee changes only their own answer. What that says of two events, value by value and byte by byte; of a merge; and of a
-- step. Assumes nothing.
use Rattle.std.specs.Prelude.{ℕ, ◌+◌, ◌≡◌, List, [], ◌∷◌, ◌++◌, Bool, true, false, length, Option, Some}
use Rattle.format.specs.Format.{option}
use Rattle.model.specs.Event.{Text, ProviderRevision, Attendee, NormalizedEvent, ProviderEvent}
use Rattle.model.specs.Seam.{RequestId, ResourceId, Request, Outcome}
use Rattle.model.specs.Parts.{Role}
use Rattle.model.specs.Edits.{Operation}
use Rattle.model.specs.Calls.{Input, Effect}
use Rattle.model.specs.State.{Pending, Queue, Purpose, SyncState}
use Rattle.model.specs.Limits.{Limits}
use Rattle.model.specs.Maps.{when◌then◌else◌, by_name, by_number, same_text, map, filter, get}
use Rattle.model.specs.Formats.{Bytes, short_text, tag, u32, organizer_f, attendee_role_f, participation_f, kind_f, status_f, transparency_f, visibility_f, ids_f, event_f, input_f}
use Rattle.model.specs.Merge.{rest, to_ascii_lowercase, merge}
use Rattle.model.specs.Sync.{Stepped, step}
use Rattle.model.specs.Demands.{effects_of}

-- ---- two events

-- whether an entry has the writer's folded address
unfoldable pub own : Text → Attendee → Bool
own address a = same_text (to_ascii_lowercase address) (to_ascii_lowercase a.address)

-- an entry, its reply left out where it is the writer's own
unfoldable pub but_reply : Text → Attendee → Attendee
but_reply address a = when own address a then rest a else a

-- an event, the reminders and these replies left out
unfoldable pub but_own : Text → ProviderEvent → ProviderEvent
but_own address e = record {
  ids = e.ids;
  revision = e.revision;
  mapper_version = e.mapper_version;
  fields = record {
    title = e.fields.title;
    times = e.fields.times;
    recurrence = e.fields.recurrence;
    organizer = e.fields.organizer;
    attendees = map (but_reply address) e.fields.attendees;
    location = e.fields.location;
    description = e.fields.description;
    status = e.fields.status;
    transparency = e.fields.transparency;
    visibility = e.fields.visibility;
    reminders = 0;
  };
  passthrough = e.passthrough;
}

-- ---- their bytes

-- as many bytes, and the same but where a mark is true
pub data SameBut : List Bool → Bytes → Bytes → Type 0 where
  end : SameBut [] [] []
  equal_byte : {m : List Bool} {x y : Bytes} (b : ℕ) → SameBut m x y → SameBut (false ∷ m) (b ∷ x) (b ∷ y)
  any_byte : {m : List Bool} {x y : Bytes} (b c : ℕ) → SameBut m x y → SameBut (true ∷ m) (b ∷ x) (c ∷ y)

-- one mark for every byte of a part
unfoldable pub marked : Bool → Bytes → List Bool
marked mark part = map (λ b. mark) part

infixr 5 ◌then◌
abbrev pub ◌then◌ : List Bool → List Bool → List Bool
m then n = m ++ n

-- an entry's bytes: the reply is marked where it is the writer's own
unfoldable pub entry_marks : Text → Attendee → List Bool
entry_marks address a =
    marked false (short_text.enc a.address)
    then marked false ((option short_text).enc a.name)
    then marked false (attendee_role_f.enc a.role)
    then marked (own address a) (participation_f.enc a.participation)
    then marked false (kind_f.enc a.kind)

unfoldable pub entries_marks : Text → List Attendee → List Bool
entries_marks address [] = []
entries_marks address (a ∷ l) = entry_marks address a then entries_marks address l

-- the bytes of an event's fields, the attendees' count byte among them: the reminders are marked too
unfoldable pub fields_marks : Text → NormalizedEvent → List Bool
fields_marks address f =
    marked false ((option short_text).enc f.title)
    then marked false (tag.enc f.times)
    then marked false ((option tag).enc f.recurrence)
    then marked false ((option organizer_f).enc f.organizer)
    then (false ∷ entries_marks address f.attendees)
    then marked false ((option short_text).enc f.location)
    then marked false ((option tag).enc f.description)
    then marked false (status_f.enc f.status)
    then marked false (transparency_f.enc f.transparency)
    then marked false (visibility_f.enc f.visibility)
    then marked true (tag.enc f.reminders)

-- an event's bytes
unfoldable pub own_marks : Text → ProviderEvent → List Bool
own_marks address e =
    marked false (ids_f.enc e.ids)
    then marked false ((option short_text).enc e.revision)
    then marked false (u32.enc e.mapper_version)
    then fields_marks address e.fields
    then marked false (tag.enc e.passthrough)

-- how many bytes are marked
unfoldable pub marks : List Bool → ℕ
marks [] = 0
marks (true ∷ l) = 1 + marks l
marks (false ∷ l) = marks l

-- the reminders' bytes, one for each of the writer's own entries, and no others
abbrev pub NothingElseMarked : Type 0
NothingElseMarked = (address : Text) (e : ProviderEvent)
    → marks (own_marks address e) ≡ length (filter (own address) e.fields.attendees) + length (tag.enc e.fields.reminders)

-- ---- a merge

-- the event `e` is theirs, but for the reminders and the participation of entries with the writer's folded address
pub record OnlyOwn (address : Text) (theirs e : ProviderEvent) : Type 0 where
  pub equal : but_own address e ≡ but_own address theirs
  -- no attendee is added, removed or reordered
  pub addresses : map (λ a. a.address) e.fields.attendees ≡ map (λ a. a.address) theirs.fields.attendees
  -- so refusal 6 never comes where theirs is an event
  pub count : length e.fields.attendees ≡ length theirs.fields.attendees
  pub bytes : SameBut (own_marks address theirs) (event_f.enc theirs) (event_f.enc e)

abbrev pub OnlyOwnAnswer : Type 0
OnlyOwnAnswer = (base ours : NormalizedEvent) (theirs : ProviderEvent) (address : Text)
    → OnlyOwn address theirs (merge base ours theirs (Role.Attendee address)).event

-- ---- a step

-- the input answers a read for the update at the head of a resource's queue: with theirs
pub record UpdateRead (s : SyncState) (input : Input) (resource : ResourceId) : Type 0 where
  pub number : RequestId
  pub theirs : ProviderEvent
  pub answers : input ≡ Input.Outcome number (Outcome.Read (Some theirs))
  pub asked : get by_number number s.in_flight ≡ Some (Purpose.EditRead resource)
  pub head : Pending
  pub behind : Queue
  pub waits : get by_name resource s.edits ≡ Some (head ∷ behind)
  pub base : NormalizedEvent
  pub ours : NormalizedEvent
  pub update : head.edit.operation ≡ Operation.Update base ours

-- an Update request carries the merge with the event that was just read; from an attendee, that event but for their own answer
pub record UpdateSent (s : SyncState) (input : Input) (resource : ResourceId) (event : ProviderEvent) : Type 0 where
  pub read : UpdateRead s input resource
  pub merged : event ≡ (merge read.base read.ours read.theirs read.head.edit.role).event
  pub only : (address : Text) → read.head.edit.role ≡ Role.Attendee address → OnlyOwn address read.theirs event

-- whatever the limits, the state and the input: every Update request among the effects
abbrev pub UpdatesSentSo : Type 0
UpdatesSentSo = (limits : Limits) (s : SyncState) (input : Input) (before after : List Effect) (n : RequestId) (resource : ResourceId)
    (revision : Option ProviderRevision) (event : ProviderEvent)
    → effects_of (step limits s input) ≡ before ++ Effect.Request n (Request.Update resource revision event) ∷ after → UpdateSent s input resource event

-- a step refused with 6 merged an owner's update
pub record OwnersUpdate (s : SyncState) (input : Input) : Type 0 where
  pub resource : ResourceId
  pub read : UpdateRead s input resource
  pub owner : read.head.edit.role ≡ Role.Owner

abbrev pub OnlyOwnersCrowd : Type 0
OnlyOwnersCrowd = (limits : Limits) (s : SyncState) (input : Input) → input_f.Ok input → step limits s input ≡ Stepped.Refused 6 → OwnersUpdate s input

-- so an attendee's update is never refused with 6
abbrev pub NoAttendeeCrowds : Type 0
NoAttendeeCrowds = (limits : Limits) (s : SyncState) (input : Input) → input_f.Ok input → (resource : ResourceId) (read : UpdateRead s input resource) (address : Text)
    → read.head.edit.role ≡ Role.Attendee address → step limits s input ≡ Stepped.Refused 6 → ⊥
