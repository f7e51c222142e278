-- How many entries a merged list has: no more than a list that has each of them. So a first write is never refused. Assumes nothing.
use Rattle.std.specs.Prelude.{Option, Some, None}
use Prim.Native.Nat.{ℕ, ◌+◌, ◌≤◌}
use native.Mathlib.Omega.{arith}
use mathlib.Core.Path.{◌≡◌, refl, sym, ap, ◌∙◌, subst}
use mathlib.Core.List.{List, [], ◌∷◌}
use lib.ListN.{length}
use lib.Dec.{leb→le, le→leb, T}
use Rattle.model.specs.Event.{Text, Attendee, NormalizedEvent, ProviderEvent}
use Rattle.model.specs.Parts.{Role}
use Rattle.model.specs.Limits.{max_attendees}
use Rattle.model.specs.Maps.{is_some}
use Rattle.model.specs.Formats.{fields_f}
use Rattle.model.specs.Merge.{unreported, Key, keyed, find, entry_at, entries_at, extend, key_order, merge_attendees, merge}
use Rattle.model.proofs.MergeKeys.{weigh, keyed_distinct, order_distinct, length_keyed}
use Rattle.model.proofs.MergeReports.{side, sides_bound, side_of}
use Rattle.model.proofs.ValidParts.{event_fields, event_few}
use Rattle.model.proofs.OwnAnswer.{only_own_answer}
use Rattle.clerks_model.specs.Units.{entry}
use Rattle.clerks_model.specs.Writes.{after_first, few}
use Rattle.clerks_model.specs.Forcing.{apart, Update}
use Rattle.clerks_model.specs.Claims.{Event, FirstWriteFew}
use Rattle.clerks_model.proofs.FirstKeys.{first_key, find_keyed, Firsts, firsts_end, firsts_more, firsts_order}
use Rattle.clerks_model.proofs.Entries.{entry_merged, at_first}
use Rattle.clerks_model.proofs.OneEntry.{entry_ok, owner_entry, entry_echo}

module _ (role : Role) (b o t l : List Attendee)
    (each : (key : Text) → T (is_some (entry_merged role key (entry key b) (entry key o) (entry key t))) → T (is_some (entry key l))) where
  counted : (ks : List Key) → Firsts ks → length (entries_at role (keyed b) (keyed o) (keyed t) ks).value ≤ weigh (λ k. side 1 (find (keyed l) k)) ks
  unfolding entries_at unreported extend is_some
  counted [] firsts_end = omega arith
  counted (k ∷ ks) (firsts_more k' ks' e f) = go (entry_at role (keyed b) (keyed o) (keyed t) k).value refl (counted ks f)
    where
      is : k ≡ first_key k.address
      is = ap (λ (n : ℕ). record { address = k.address; occurrence = n }) e

      here : (v : Attendee) → (entry_at role (keyed b) (keyed o) (keyed t) k).value ≡ Some v → T (is_some (find (keyed l) k))
      here v h = subst (λ (x : Option Attendee). T (is_some x)) (sym (ap (λ (k : Key). find (keyed l) k) is ∙ find_keyed l k.address))
          (each k.address (subst (λ (x : Option Attendee). T (is_some x))
          (sym (sym (at_first role b o t k.address) ∙ ap (λ (k : Key). (entry_at role (keyed b) (keyed o) (keyed t) k).value) (sym is) ∙ h)) tt))

      one : (x : Option Attendee) → T (is_some x) → 1 ≤ side 1 x
      one None t = absurd t
      one (Some x) t = omega arith

      go : (v : Option Attendee) → (entry_at role (keyed b) (keyed o) (keyed t) k).value ≡ v
          → length (entries_at role (keyed b) (keyed o) (keyed t) ks).value ≤ weigh (λ k. side 1 (find (keyed l) k)) ks
          → length (extend role (keyed b) (keyed o) (keyed t) v (entries_at role (keyed b) (keyed o) (keyed t) ks).value) ≤ side 1 (find (keyed l) k) + weigh (λ k. side 1 (find (keyed l) k)) ks
      go None h ih = omega (arith, ih)
      go (Some v) h ih = omega (arith, ih, one (find (keyed l) k) (here v h))

  no_more : T (apart o) → T (apart t) → length (merge_attendees role b o t).value ≤ length l
  unfolding merge_attendees
  no_more p q = omega (
    arith,
    counted (key_order (keyed o) (keyed t)) (firsts_order o t p q),
    sides_bound 1 (keyed l) (key_order (keyed o) (keyed t)) (order_distinct (keyed o) (keyed t) (keyed_distinct o) (keyed_distinct t)),
    length_keyed l,
  )

pub fields_few : (w : NormalizedEvent) → fields_f.Ok w → length w.attendees ≤ max_attendees
unfolding max_attendees
fields_few w h = (side_of w h).few

pub event_is_few : (e : ProviderEvent) → Event e → T (few e)
unfolding few
event_is_few e ev = le→leb (length e.fields.attendees) max_attendees (event_few e ev.fits)

-- an update that wants the base leaves as many at most
pub echo_few : (b : NormalizedEvent) (t : ProviderEvent) (role : Role) → T (apart b.attendees) → T (apart t.fields.attendees) → T (few t)
    → T (few (merge b b t role).event)
unfolding merge few
echo_few b t role pb pt h = le→leb (length (merge_attendees role b.attendees b.attendees t.fields.attendees).value) max_attendees (omega (
  arith,
  leb→le (length t.fields.attendees) max_attendees h,
  no_more role b.attendees b.attendees t.fields.attendees t.fields.attendees
      (λ key x. subst (λ (v : Option Attendee). T (is_some v)) (entry_echo role key _ _) x) pb pt,
))

pub attendee_few : (b o : NormalizedEvent) (t : ProviderEvent) (address : Text) → T (few t) → T (few (merge b o t (Role.Attendee address)).event)
unfolding few
attendee_few b o t address h = rw (only_own_answer b o t address).count h

-- an owner's merge that has only entries that it wants
pub owner_few : (b w : NormalizedEvent) (t : ProviderEvent) → Update w → T (apart t.fields.attendees)
    → ((key : Text) → T (is_some (entry_merged Role.Owner key (entry key b.attendees) (entry key w.attendees) (entry key t.fields.attendees))) → T (is_some (entry key w.attendees)))
    → T (few (merge b w t Role.Owner).event)
unfolding merge few
owner_few b w t up pt each = le→leb (length (merge_attendees Role.Owner b.attendees w.attendees t.fields.attendees).value) max_attendees (omega (
  arith,
  fields_few w up.fits,
  no_more Role.Owner b.attendees w.attendees t.fields.attendees w.attendees each up.apart_addresses pt,
))

pub first_write_few : FirstWriteFew
unfolding after_first
first_write_few e p ev up = go p.role
  where
    go : (role : Role) → T (few (merge e.fields p.wanted e role).event)
    go (Role.Attendee address) = attendee_few e.fields p.wanted e address (event_is_few e ev)
    go Role.Owner = owner_few e.fields p.wanted e up ev.apart_addresses (λ key t. subst (λ (v : Option Attendee). T (is_some v))
        (owner_entry key (entry key e.fields.attendees) (entry key p.wanted.attendees) (entry_ok key e.fields (event_fields e ev.fits)) (entry_ok key p.wanted up.fits)) t)
