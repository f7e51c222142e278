-- Who can force a unit. The update that forces it is chosen first, then the other party's. Assumes nothing.
use Rattle.std.specs.Prelude.{◌≡◌, List, [], ◌∷◌, Bool, true, not, ◌&&◌, ◌||◌, T}
use Rattle.model.specs.Event.{Attendee, NormalizedEvent, ProviderEvent}
use Rattle.model.specs.Parts.{Role}
use Rattle.model.specs.Maps.{is_some}
use Rattle.model.specs.Formats.{fields_f}
use Rattle.clerks_model.specs.Frame.{Party}
use Rattle.clerks_model.specs.Units.{Unit, folded, entry, is_reply, Value, value}
use Rattle.clerks_model.specs.Writes.{after_both, accepted}

-- no folded address twice
unfoldable pub apart : List Attendee → Bool
apart [] = true
apart (a ∷ l) = not (is_some (entry (folded a) l)) && apart l

-- an update that the tool takes
pub record Update (w : NormalizedEvent) : Type 0 where
  pub fits : fields_f.Ok w
  pub apart_addresses : T (apart w.attendees)

-- a value that may be given: one that the unit has in some update. The absence of a reply is none
pub record Given (u : Unit) (v : Value) : Type 0 where
  pub in_update : NormalizedEvent
  pub update : Update in_update
  pub is : value u in_update ≡ v
  pub there : T (is_some v || not (is_reply u))

-- some update of one's own has the unit at v after both writes, for every update of the other's that gets neither merge refused. `allowed` and `final` are of
-- one's own update and the other's
pub record Forces (allowed : NormalizedEvent → NormalizedEvent → Bool) (final : NormalizedEvent → NormalizedEvent → ProviderEvent) (u : Unit) (v : Value) : Type 0 where
  pub wanted : NormalizedEvent
  pub update : Update wanted
  pub forced : (other : NormalizedEvent) → Update other → T (allowed wanted other) → value u (final wanted other).fields ≡ v

abbrev pub party : Role → NormalizedEvent → Party
party role wanted = record { role = role; wanted = wanted }

-- the first to write forces it, or the second
abbrev pub FirstForces : ProviderEvent → (first second : Role) → Unit → Value → Type 0
FirstForces e first second =
    Forces (λ own other. accepted e (party first own) (party second other)) (λ own other. after_both e (party first own) (party second other))

abbrev pub SecondForces : ProviderEvent → (first second : Role) → Unit → Value → Type 0
SecondForces e first second =
    Forces (λ own other. accepted e (party first other) (party second own)) (λ own other. after_both e (party first other) (party second own))

-- every given value unequal to the base
abbrev pub Can : ProviderEvent → (Unit → Value → Type 0) → Unit → Type 0
Can e forces u = (v : Value) → Given u v → (v ≡ value u e.fields → ⊥) → forces u v

abbrev pub FirstCan : ProviderEvent → (first second : Role) → Unit → Type 0
FirstCan e first second = Can e (FirstForces e first second)

abbrev pub SecondCan : ProviderEvent → (first second : Role) → Unit → Type 0
SecondCan e first second = Can e (SecondForces e first second)
