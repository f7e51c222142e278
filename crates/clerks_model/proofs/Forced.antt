-- Who is named can force the unit: an owner whose write lands first, an attendee what it may change, and the second what the first leaves. Assumes nothing.
use Rattle.std.specs.Prelude.{Some, None}
use mathlib.Core.Path.{◌≡◌, refl, sym, ap, ◌∙◌}
use mathlib.Core.Bool.{true, false, not, ◌||◌, true≢false}
use lib.Dec.{T}
use Rattle.model.specs.Event.{Text, NormalizedEvent, ProviderEvent}
use Rattle.model.specs.Parts.{Role}
use Rattle.model.specs.Maps.{is_some}
use Rattle.model.specs.Merge.{is_owner, merge}
use Rattle.model.proofs.ValidParts.{event_fields}
use Rattle.clerks_model.specs.Units.{Unit, by_kind, entry, is_reply, rest_of, reply_of, Value, value}
use Rattle.clerks_model.specs.Writes.{after_first, after_both}
use Rattle.clerks_model.specs.Forcing.{apart, Update, party, FirstCan, SecondCan}
use Rattle.clerks_model.specs.Naming.{own_there, is_reminders, attendee_may, may_change, saved_by}
use Rattle.clerks_model.specs.Claims.{Event, FirstOwnerForces}
use Rattle.clerks_model.proofs.Entries.{entry_merged, merge_entry, merge_apart}
use Rattle.clerks_model.proofs.OneEntry.{entry_ok, owner_entry, own_of, own_writes, entry_kept}
use Rattle.clerks_model.proofs.UnitKinds.{FieldOf, Kind, a_field, a_rest, a_reply, kind_of, field_owned, field_kept}
use Rattle.clerks_model.proofs.Standing.{stands_after}

-- ---- an attendee and a field

module _ {u : Unit} (f : FieldOf u) (address : Text) (e : NormalizedEvent) where
  pub may_own : attendee_may (Role.Attendee address) e u ≡ f.owned (Role.Attendee address)
  unfolding attendee_may
  may_own = f.by_field (is_reminders u) _ _ ∙ sym (f.attendee_owns address)

-- ---- one merge, with an event where the entry of this address is the base's

module _ (e : ProviderEvent) (w : NormalizedEvent) (t : ProviderEvent) (ev : Event e) (up : Update w) (p : T (apart t.fields.attendees)) where
  entry_of : (role : Role) (key : Text) → entry key t.fields.attendees ≡ entry key e.fields.attendees
      → entry key (merge e.fields w t role).event.fields.attendees
      ≡ entry_merged role key (entry key e.fields.attendees) (entry key w.attendees) (entry key e.fields.attendees)
  entry_of role key h = merge_entry e.fields w t role key up.apart_addresses p
      ∙ ap (entry_merged role key (entry key e.fields.attendees) (entry key w.attendees)) h

  -- an owner writes what it wants
  pub owner_merged : (key : Text) → entry key t.fields.attendees ≡ entry key e.fields.attendees
      → entry key (merge e.fields w t Role.Owner).event.fields.attendees ≡ entry key w.attendees
  owner_merged key h = entry_of Role.Owner key h
      ∙ owner_entry key (entry key e.fields.attendees) (entry key w.attendees) (entry_ok key e.fields (event_fields e ev.fits)) (entry_ok key w up.fits)

  -- an attendee the reply of its own entry
  own_merged : (address key : Text) (v : Value) → entry key t.fields.attendees ≡ entry key e.fields.attendees
      → own_there (Role.Attendee address) e.fields key ≡ true → reply_of (entry key w.attendees) ≡ v → T (is_some v)
      → reply_of (entry key (merge e.fields w t (Role.Attendee address)).event.fields.attendees) ≡ v
  own_merged address key v h own is s = ap reply_of (entry_of (Role.Attendee address) key h)
      ∙ own_writes address key (entry key e.fields.attendees) (entry key w.attendees) v (own_of address key e.fields own) is s

  -- and leaves other entries
  pub kept_merged : (address key : Text) → entry key t.fields.attendees ≡ entry key e.fields.attendees
      → own_there (Role.Attendee address) e.fields key ≡ false
      → entry key (merge e.fields w t (Role.Attendee address)).event.fields.attendees ≡ entry key e.fields.attendees
  unfolding own_there
  kept_merged address key h other = entry_of (Role.Attendee address) key h
      ∙ entry_kept address key (entry key e.fields.attendees) (entry key w.attendees) other

-- ---- the first write

owner_writes : (e : ProviderEvent) (w : NormalizedEvent) (u : Unit) → Event e → Update w → value u (after_first e (party Role.Owner w)).fields ≡ value u w
unfolding value after_first
owner_writes e w u ev up = go u (kind_of u)
  where
    go : (u : Unit) → Kind u → value u (merge e.fields w e Role.Owner).event.fields ≡ value u w
    go u (a_field u' f) = field_owned f e.fields w e Role.Owner f.owner_owns refl
    go u (a_rest key) = ap rest_of (owner_merged e w e ev up ev.apart_addresses key refl)
    go u (a_reply key) = ap reply_of (owner_merged e w e ev up ev.apart_addresses key refl)

pub first_owner_forces : FirstOwnerForces
first_owner_forces e second u ev v given n = record {
  wanted = given.in_update;
  update = given.update;
  forced = λ other up acc. stands_after e (party Role.Owner given.in_update) (party second other) u v ev given.update up acc
      (owner_writes e given.in_update u ev given.update ∙ given.is) n;
}

there_or : (v : Value) → T (is_some v || false) → T (is_some v)
unfolding is_some
there_or None t = t
there_or (Some x) t = tt

attendee_writes : (e : ProviderEvent) (address : Text) (w : NormalizedEvent) (u : Unit) (v : Value) → Event e → Update w
    → attendee_may (Role.Attendee address) e.fields u ≡ true → value u w ≡ v → T (is_some v || not (is_reply u))
    → value u (after_first e (party (Role.Attendee address) w)).fields ≡ v
unfolding value after_first attendee_may by_kind is_reply
attendee_writes e address w u v ev up k is t = go u (kind_of u) k is t
  where
    go : (u : Unit) → Kind u → attendee_may (Role.Attendee address) e.fields u ≡ true → value u w ≡ v → T (is_some v || not (is_reply u))
        → value u (merge e.fields w e (Role.Attendee address)).event.fields ≡ v
    go u (a_field u' f) k is t = field_owned f e.fields w e (Role.Attendee address) (sym (may_own f address e.fields) ∙ k) refl ∙ is
    go u (a_rest key) k is t = absurd (true≢false (sym k))
    go u (a_reply key) k is t = own_merged e w e ev up ev.apart_addresses address key v refl k is (there_or v t)

pub first_can : (e : ProviderEvent) (first second : Role) (u : Unit) → Event e → may_change first e.fields u ≡ true → FirstCan e first second u
unfolding may_change is_owner
first_can e Role.Owner second u ev h v given n = first_owner_forces e second u ev v given n
first_can e (Role.Attendee address) second u ev h v given n = record {
  wanted = given.in_update;
  update = given.update;
  forced = λ other up acc. stands_after e (party (Role.Attendee address) given.in_update) (party second other) u v ev given.update up acc
      (attendee_writes e address given.in_update u v ev given.update h given.is given.there) n;
}

-- ---- the second write, where the first, an attendee, left the unit as it was

module _ (e : ProviderEvent) (address : Text) (other w : NormalizedEvent) (ev : Event e) (uo : Update other) (uw : Update w) where
  first : ProviderEvent
  first = (merge e.fields other e (Role.Attendee address)).event

  apart_first : T (apart first.fields.attendees)
  unfolding first
  apart_first = merge_apart e.fields other e (Role.Attendee address) uo.apart_addresses ev.apart_addresses

  left : (key : Text) → own_there (Role.Attendee address) e.fields key ≡ false → entry key first.fields.attendees ≡ entry key e.fields.attendees
  unfolding first
  left key h = kept_merged e other e ev uo ev.apart_addresses address key refl h

  owner_second : (u : Unit) → attendee_may (Role.Attendee address) e.fields u ≡ false → saved_by (Role.Attendee address) e.fields u ≡ false
      → value u (after_both e (party (Role.Attendee address) other) (party Role.Owner w)).fields ≡ value u w
  unfolding value after_both after_first attendee_may saved_by by_kind first
  owner_second u h k = go u (kind_of u) h k
    where
      go : (u : Unit) → Kind u → attendee_may (Role.Attendee address) e.fields u ≡ false → saved_by (Role.Attendee address) e.fields u ≡ false
          → value u (merge e.fields w first Role.Owner).event.fields ≡ value u w
      go u (a_field u' f) h k = field_owned f e.fields w first Role.Owner f.owner_owns
          (field_kept f e.fields other e (Role.Attendee address) (sym (may_own f address e.fields) ∙ h))
      go u (a_rest key) h k = ap rest_of (owner_merged e w first ev uw apart_first key (left key k))
      go u (a_reply key) h k = ap reply_of (owner_merged e w first ev uw apart_first key (left key h))

  attendee_second : (mine : Text) (u : Unit) (v : Value) → attendee_may (Role.Attendee address) e.fields u ≡ false → attendee_may (Role.Attendee mine) e.fields u ≡ true
      → value u w ≡ v → T (is_some v || not (is_reply u)) → value u (after_both e (party (Role.Attendee address) other) (party (Role.Attendee mine) w)).fields ≡ v
  unfolding value after_both after_first attendee_may by_kind is_reply first
  attendee_second mine u v h k is t = go u (kind_of u) h k is t
    where
      go : (u : Unit) → Kind u → attendee_may (Role.Attendee address) e.fields u ≡ false → attendee_may (Role.Attendee mine) e.fields u ≡ true
          → value u w ≡ v → T (is_some v || not (is_reply u)) → value u (merge e.fields w first (Role.Attendee mine)).event.fields ≡ v
      -- a field that one attendee owns, each does
      go u (a_field u' f) h k is t = absurd (true≢false (sym k ∙ may_own f mine e.fields ∙ f.attendee_owns mine ∙ sym (f.attendee_owns address) ∙ sym (may_own f address e.fields) ∙ h))
      go u (a_rest key) h k is t = absurd (true≢false (sym k))
      go u (a_reply key) h k is t = own_merged e w first ev uw apart_first mine key v (left key h) k is (there_or v t)

pub second_can : (e : ProviderEvent) (first second : Role) (u : Unit) → Event e → may_change first e.fields u ≡ false → may_change second e.fields u ≡ true
    → saved_by first e.fields u ≡ false → SecondCan e first second u
unfolding may_change is_owner
second_can e Role.Owner second u ev h k l v given n = absurd (true≢false h)
second_can e (Role.Attendee address) Role.Owner u ev h k l v given n = record {
  wanted = given.in_update;
  update = given.update;
  forced = λ other up acc. owner_second e address other given.in_update ev up given.update u h l ∙ given.is;
}
second_can e (Role.Attendee address) (Role.Attendee mine) u ev h k l v given n = record {
  wanted = given.in_update;
  update = given.update;
  forced = λ other up acc. attendee_second e address other given.in_update ev up given.update mine u v h k given.is given.there;
}
