-- The party that is named for a unit, by the roles and the event alone. Claims.antt says that it is the one that can force the unit. Assumes nothing.
use Rattle.std.specs.Prelude.{Bool, true, false, not, ◌&&◌, ◌||◌}
use Rattle.model.specs.Event.{Text, NormalizedEvent}
use Rattle.model.specs.Parts.{Role}
use Rattle.model.specs.Maps.{when◌then◌else◌, same_text, is_some}
use Rattle.model.specs.Merge.{to_ascii_lowercase, is_owner}
use Rattle.clerks_model.specs.Units.{Unit, by_kind, entry}

-- whether an attendee's own entry is the one of this folded address, and stands in the event
unfoldable pub own_there : Role → NormalizedEvent → Text → Bool
own_there Role.Owner e key = false
own_there (Role.Attendee address) e key = same_text (to_ascii_lowercase address) key && is_some (entry key e.attendees)

unfoldable pub is_reminders : Unit → Bool
is_reminders Unit.Reminders = true
is_reminders Unit.Title = false
is_reminders Unit.Times = false
is_reminders Unit.Recurrence = false
is_reminders Unit.Organizer = false
is_reminders (Unit.Rest key) = false
is_reminders (Unit.Reply key) = false
is_reminders Unit.Location = false
is_reminders Unit.Description = false
is_reminders Unit.Status = false
is_reminders Unit.Transparency = false
is_reminders Unit.Visibility = false

-- an attendee may change the reminders and the reply of its own entry
unfoldable pub attendee_may : Role → NormalizedEvent → Unit → Bool
attendee_may role e u = by_kind (is_reminders u) (λ key. false) (own_there role e) u

-- an owner may change everything
unfoldable pub may_change : Role → NormalizedEvent → Unit → Bool
may_change role e u = is_owner role || attendee_may role e u

-- the rest of an entry whose reply the first, an attendee, may change: that reply keeps the entry as it was
unfoldable pub saved_by : Role → NormalizedEvent → Unit → Bool
saved_by first e = by_kind false (own_there first e) (λ key. false)

pub data Named : Type 0 where
  Nobody First Second : Named

-- by the order of their writes
unfoldable pub named : (first second : Role) → NormalizedEvent → Unit → Named
named first second e u =
    when may_change first e u then Named.First
    else (when may_change second e u && not (saved_by first e u) then Named.Second
    else Named.Nobody)
