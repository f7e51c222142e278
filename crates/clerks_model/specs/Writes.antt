-- The two writes: each party's update, merged with what stands at the provider then. Both have the event that they started from as their base. Assumes nothing.
use Rattle.std.specs.Prelude.{Bool, ◌&&◌, length, leb}
use Rattle.model.specs.Event.{ProviderEvent}
use Rattle.model.specs.Limits.{max_attendees}
use Rattle.model.specs.Merge.{merge}
use Rattle.clerks_model.specs.Frame.{Party}

unfoldable pub after_first : ProviderEvent → (first : Party) → ProviderEvent
after_first e p = (merge e.fields p.wanted e p.role).event

unfoldable pub after_both : ProviderEvent → (first second : Party) → ProviderEvent
after_both e p q = (merge e.fields q.wanted (after_first e p) q.role).event

unfoldable pub few : ProviderEvent → Bool
few e = leb (length e.fields.attendees) max_attendees

-- neither merge is refused
unfoldable pub accepted : ProviderEvent → (first second : Party) → Bool
accepted e p q = few (after_first e p) && few (after_both e p q)
