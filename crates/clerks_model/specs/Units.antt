-- The units of a booking, each with its value in an event, and the units of a frame. Assumes nothing.
use Rattle.std.specs.Prelude.{ℕ, ◌+◌, ◌*◌, List, [], ◌∷◌, ◌++◌, Bool, true, false, length, Option, Some, None}
use Rattle.format.specs.Format.{option}
use Rattle.model.specs.Event.{Text, Attendee, NormalizedEvent}
use Rattle.model.specs.Limits.{max_attendees}
use Rattle.model.specs.Maps.{when◌then◌else◌, same_text, any}
use Rattle.model.specs.Formats.{Bytes, tag, short_text, organizer_f, attendee_f, participation_f, status_f, transparency_f, visibility_f}
use Rattle.model.specs.Merge.{rest, to_ascii_lowercase}
use Rattle.clerks_model.specs.Frame.{Clerks}

-- in the merge's order. An entry is named by its folded address, as no list has one twice; its participation, the reply, comes after the rest of it
pub data Unit : Type 0 where
  Title Times Recurrence Organizer : Unit
  Rest Reply : (address : Text) → Unit
  Location Description Status Transparency Visibility Reminders : Unit

-- one thing for a field, others for the rest of an entry and for its reply
unfoldable pub by_kind : {A : Type 0} → A → (Text → A) → (Text → A) → Unit → A
by_kind field rest reply (Unit.Rest address) = rest address
by_kind field rest reply (Unit.Reply address) = reply address
by_kind field rest reply Unit.Title = field
by_kind field rest reply Unit.Times = field
by_kind field rest reply Unit.Recurrence = field
by_kind field rest reply Unit.Organizer = field
by_kind field rest reply Unit.Location = field
by_kind field rest reply Unit.Description = field
by_kind field rest reply Unit.Status = field
by_kind field rest reply Unit.Transparency = field
by_kind field rest reply Unit.Visibility = field
by_kind field rest reply Unit.Reminders = field

unfoldable pub is_field : Unit → Bool
is_field = by_kind true (λ address. false) (λ address. false)

unfoldable pub is_reply : Unit → Bool
is_reply = by_kind false (λ address. false) (λ address. true)

-- ---- values

unfoldable pub folded : Attendee → Text
folded a = to_ascii_lowercase a.address

-- the entry with a folded address
unfoldable pub entry : Text → List Attendee → Option Attendee
entry address [] = None
entry address (a ∷ l) = when same_text (folded a) address then Some a else entry address l

-- a unit's value: its bytes. `none` is the absence of an entry: a value of its rest, while its reply has no value then
abbrev pub Value : Type 0
Value = Option Bytes

unfoldable pub rest_of : Option Attendee → Value
rest_of None = None
rest_of (Some a) = Some (attendee_f.enc (rest a))

unfoldable pub reply_of : Option Attendee → Value
reply_of None = None
reply_of (Some a) = Some (participation_f.enc a.participation)

unfoldable pub value : Unit → NormalizedEvent → Value
value Unit.Title e = Some ((option short_text).enc e.title)
value Unit.Times e = Some (tag.enc e.times)
value Unit.Recurrence e = Some ((option tag).enc e.recurrence)
value Unit.Organizer e = Some ((option organizer_f).enc e.organizer)
value (Unit.Rest address) e = rest_of (entry address e.attendees)
value (Unit.Reply address) e = reply_of (entry address e.attendees)
value Unit.Location e = Some ((option short_text).enc e.location)
value Unit.Description e = Some ((option tag).enc e.description)
value Unit.Status e = Some (status_f.enc e.status)
value Unit.Transparency e = Some (transparency_f.enc e.transparency)
value Unit.Visibility e = Some (visibility_f.enc e.visibility)
value Unit.Reminders e = Some (tag.enc e.reminders)

-- ---- a frame's units

-- names of entries, and behind them those of a list's entries that are not among them
unfoldable pub add_new : List Text → List Attendee → List Text
add_new keys [] = keys
add_new keys (a ∷ l) = add_new (when any (same_text (folded a)) keys then keys else keys ++ folded a ∷ []) l

-- the event's entries, then the new ones, each once, by party in frame order
unfoldable pub entry_keys : Clerks → List Text
entry_keys c = add_new (add_new (add_new [] c.event.fields.attendees) c.one.wanted.attendees) c.two.wanted.attendees

unfoldable pub entry_units : List Text → List Unit
entry_units [] = []
entry_units (key ∷ keys) = Unit.Rest key ∷ Unit.Reply key ∷ entry_units keys

abbrev pub fields_before : List Unit
fields_before = Unit.Title ∷ Unit.Times ∷ Unit.Recurrence ∷ Unit.Organizer ∷ []

abbrev pub fields_behind : List Unit
fields_behind = Unit.Location ∷ Unit.Description ∷ Unit.Status ∷ Unit.Transparency ∷ Unit.Visibility ∷ Unit.Reminders ∷ []

unfoldable pub units : Clerks → List Unit
units c = fields_before ++ entry_units (entry_keys c) ++ fields_behind

-- the most units of a frame: two for each entry of three lists
unfoldable pub max_units : ℕ
max_units = length fields_before + 2 * (3 * max_attendees) + length fields_behind
