-- What is claimed of two clerks, and proved in proofs/Theorems.antt. Assumes nothing.
use Rattle.std.specs.Prelude.{◌≡◌, ◌⊎◌, ◌↔◌, true, false, length, T, ◌≤◌, Some, None}
use Rattle.format.specs.Format.{All, whole_of}
use Rattle.model.specs.Event.{Attendee, ProviderEvent}
use Rattle.model.specs.Parts.{Role}
use Rattle.model.specs.Formats.{Bytes, attendee_f, event_f}
use Rattle.clerks_model.specs.Frame.{Party, Clerks, clerks_f}
use Rattle.clerks_model.specs.Units.{Unit, folded, is_field, value, units, max_units}
use Rattle.clerks_model.specs.Writes.{after_first, after_both, few, accepted}
use Rattle.clerks_model.specs.Forcing.{apart, Update, FirstCan, SecondCan}
use Rattle.clerks_model.specs.Naming.{Named, named}
use Rattle.clerks_model.specs.Answer.{Answer, no_frame, address_twice, too_many, all_apart, two_clerks}

-- an event that the tool takes
pub record Event (e : ProviderEvent) : Type 0 where
  pub fits : event_f.Ok e
  pub apart_addresses : T (apart e.fields.attendees)

-- ---- who is named

-- the party named can force the unit: the first to write if both, and nobody only if neither
pub data Names (e : ProviderEvent) (first second : Role) (u : Unit) : Named → Type 0 where
  first_can : FirstCan e first second u → Names e first second u Named.First
  second_can : (FirstCan e first second u → ⊥) → SecondCan e first second u → Names e first second u Named.Second
  nobody_can : (FirstCan e first second u → ⊥) → (SecondCan e first second u → ⊥) → Names e first second u Named.Nobody

-- a unit that a frame may have: an entry's name is some entry's folded address
pub data Proper : Unit → Type 0 where
  of_field : (u : Unit) → T (is_field u) → Proper u
  of_rest : (a : Attendee) → attendee_f.Ok a → Proper (Unit.Rest (folded a))
  of_reply : (a : Attendee) → attendee_f.Ok a → Proper (Unit.Reply (folded a))

abbrev pub NamedRightly : Type 0
NamedRightly = (e : ProviderEvent) (first second : Role) (u : Unit) → Event e → Proper u → Names e first second u (named first second e.fields u)

-- ---- the request's two sentences

-- an owner whose write lands first can force every unit
abbrev pub FirstOwnerForces : Type 0
FirstOwnerForces = (e : ProviderEvent) (second : Role) (u : Unit) → Event e → FirstCan e Role.Owner second u

-- the second brings in changes only where the first left the base standing. The request's exception, the participation of entries that the second removes, is
-- not needed: an entry is removed only where the whole of it stood as in the base
abbrev pub SecondOnlyWhereBaseStood : Type 0
SecondOnlyWhereBaseStood = (e : ProviderEvent) (p q : Party) (u : Unit) → Event e → Update p.wanted → Update q.wanted → T (accepted e p q)
    → (value u (after_both e p q).fields ≡ value u (after_first e p).fields → ⊥)
    → value u (after_first e p).fields ≡ value u e.fields

-- ---- frames

-- a frame holds what it is exactly the bytes of
abbrev pub ClerksExact : Type 0
ClerksExact = (frame : Bytes) (c : Clerks) → (whole_of clerks_f frame ≡ Some c) ↔ (clerks_f.Ok c × (frame ≡ clerks_f.enc c))

-- so the claims speak of every unit of a frame
abbrev pub UnitsProper : Type 0
UnitsProper = (c : Clerks) → clerks_f.Ok c → All Proper (units c)

abbrev pub UnitsBounded : Type 0
UnitsBounded = (c : Clerks) → clerks_f.Ok c → length (units c) ≤ max_units

-- refusal 6 never comes of a first write
abbrev pub FirstWriteFew : Type 0
FirstWriteFew = (e : ProviderEvent) (p : Party) → Event e → Update p.wanted → T (few (after_first e p))

-- ---- refusals

-- 3 comes first, then 10, then 6, which a merge of either order gives
pub record InOrder (frame : Bytes) : Type 0 where
  pub first : whole_of clerks_f frame ≡ None → two_clerks frame ≡ Answer.Refused no_frame
  pub then : (c : Clerks) → whole_of clerks_f frame ≡ Some c → all_apart c ≡ false → two_clerks frame ≡ Answer.Refused address_twice
  pub last : (c : Clerks) → whole_of clerks_f frame ≡ Some c → all_apart c ≡ true
      → ((accepted c.event c.one c.two ≡ false) ⊎ (accepted c.event c.two c.one ≡ false)) → two_clerks frame ≡ Answer.Refused too_many

abbrev pub RefusedInOrder : Type 0
RefusedInOrder = (frame : Bytes) → InOrder frame
