-- A frame's units: each is one that the claims speak of, and there are max_units at most. A frame is exactly its bytes. Assumes nothing.
use Prim.Native.Nat.{◌+◌, ◌*◌, ◌≤◌}
use native.Mathlib.Omega.{arith}
use mathlib.Core.Path.{◌≡◌, refl, subst}
use mathlib.Core.List.{List, [], ◌∷◌, ◌++◌}
use mathlib.Core.Bool.{true, false}
use lib.ListN.{length, length-append}
use Rattle.format.specs.Format.{Lawful, All, via, ◌⊗◌}
use Rattle.format.proofs.FormatLaws.{pair_law, via_law}
use Rattle.format.proofs.WholeLaws.{whole}
use Rattle.model.specs.Event.{Text, Attendee, NormalizedEvent}
use Rattle.model.specs.Limits.{max_attendees}
use Rattle.model.specs.Maps.{when◌then◌else◌, same_text, any}
use Rattle.model.specs.Formats.{attendee_f, fields_f}
use Rattle.model.proofs.FormatsLaws.{role_f_law, fields_f_law, event_f_law}
use Rattle.model.proofs.Fitting.{all_append}
use Rattle.model.proofs.MergeReports.{side_of}
use Rattle.model.proofs.ValidParts.{event_fields}
use Rattle.clerks_model.specs.Frame.{Clerks, party_to, party_from, clerks_to, clerks_from, party_f, clerks_f}
use Rattle.clerks_model.specs.Units.{Unit, by_kind, is_field, folded, add_new, entry_keys, entry_units, fields_before, fields_behind, units, max_units}
use Rattle.clerks_model.specs.Claims.{Proper, of_field, of_rest, of_reply, ClerksExact, UnitsProper, UnitsBounded}
use Rattle.clerks_model.proofs.Counting.{fields_few}

-- ---- the format

pub party_f_law : Lawful party_f
unfolding party_f
party_f_law = via_law (pair_law role_f_law fields_f_law) party_to party_from (λ v. refl) (λ p ok. refl)

pub clerks_f_law : Lawful clerks_f
unfolding clerks_f
clerks_f_law = via_law (pair_law event_f_law (pair_law party_f_law party_f_law)) clerks_to clerks_from (λ v. refl) (λ p ok. refl)

pub clerks_exact : ClerksExact
clerks_exact frame c = whole clerks_f_law frame c

-- a frame's three lists
record Fits (c : Clerks) : Type 0 where
  event : fields_f.Ok c.event.fields
  one : fields_f.Ok c.one.wanted
  two : fields_f.Ok c.two.wanted

fits : (c : Clerks) → clerks_f.Ok c → Fits c
unfolding clerks_f party_f via ◌⊗◌
fits c h = record { event = event_fields c.event h.0; one = h.1.0.1; two = h.1.1.1 }

-- ---- the units are proper

-- a name that is some entry's
record Somebody (key : Text) : Type 0 where
  who : Attendee
  ok : attendee_f.Ok who
  is : folded who ≡ key

added : (keys : List Text) (l : List Attendee) → All Somebody keys → All attendee_f.Ok l → All Somebody (add_new keys l)
unfolding add_new when◌then◌else◌
added keys [] p q = p
added keys (a ∷ l) p q = elim (any (same_text (folded a)) keys) as (λ c. All Somebody (add_new (when c then keys else keys ++ folded a ∷ []) l)) [
  | true ↦ added keys l p q.1
  | false ↦ added (keys ++ folded a ∷ []) l (all_append Somebody keys (folded a ∷ []) p (record { who = a; ok = q.0; is = refl }, tt)) q.1
]

entries_proper : (keys : List Text) → All Somebody keys → All Proper (entry_units keys)
unfolding entry_units
entries_proper [] p = tt
entries_proper (k ∷ keys) p = (
  subst (λ (k : Text). Proper (Unit.Rest k)) p.0.is (of_rest p.0.who p.0.ok),
  (subst (λ (k : Text). Proper (Unit.Reply k)) p.0.is (of_reply p.0.who p.0.ok), entries_proper keys p.1),
)

before_proper : All Proper fields_before
unfolding is_field by_kind
before_proper = (of_field _ tt, (of_field _ tt, (of_field _ tt, (of_field _ tt, tt))))

behind_proper : All Proper fields_behind
unfolding is_field by_kind
behind_proper = (of_field _ tt, (of_field _ tt, (of_field _ tt, (of_field _ tt, (of_field _ tt, (of_field _ tt, tt))))))

keys_somebody : (c : Clerks) → Fits c → All Somebody (entry_keys c)
unfolding entry_keys
keys_somebody c f =
    added _ c.two.wanted.attendees (added _ c.one.wanted.attendees (added [] c.event.fields.attendees tt (all c.event.fields f.event)) (all c.one.wanted f.one)) (all c.two.wanted f.two)
  where
    all : (w : NormalizedEvent) → fields_f.Ok w → All attendee_f.Ok w.attendees
    all w h = (side_of w h).attendees

pub units_proper : UnitsProper
unfolding units
units_proper c h = all_append Proper fields_before (entry_units (entry_keys c) ++ fields_behind) before_proper
    (all_append Proper (entry_units (entry_keys c)) fields_behind (entries_proper (entry_keys c) (keys_somebody c (fits c h))) behind_proper)

-- ---- how many they are

length_added : (keys : List Text) (l : List Attendee) → length (add_new keys l) ≤ length keys + length l
unfolding add_new when◌then◌else◌
length_added keys [] = omega arith
length_added keys (a ∷ l) = elim (any (same_text (folded a)) keys) as (λ c. length (add_new (when c then keys else keys ++ folded a ∷ []) l) ≤ length keys + length (a ∷ l)) [
  | true ↦ omega (arith, length_added keys l)
  | false ↦ omega (arith, length_added (keys ++ folded a ∷ []) l, length-append keys (folded a ∷ []))
]

length_entry_units : (keys : List Text) → length (entry_units keys) ≡ 2 * length keys
unfolding entry_units
length_entry_units [] = refl
length_entry_units (k ∷ keys) = omega (arith, length_entry_units keys)

keys_bounded : (c : Clerks) → Fits c → length (entry_keys c) ≤ 3 * max_attendees
unfolding entry_keys
keys_bounded c f =
    let e = c.event.fields.attendees in
    let o = c.one.wanted.attendees in
    let t = c.two.wanted.attendees in
    omega (
      arith,
      length_added [] e,
      length_added (add_new [] e) o,
      length_added (add_new (add_new [] e) o) t,
      fields_few c.event.fields f.event,
      fields_few c.one.wanted f.one,
      fields_few c.two.wanted f.two,
    )

pub units_bounded : UnitsBounded
unfolding units max_units
units_bounded c h = omega (
  arith,
  length-append fields_before (entry_units (entry_keys c) ++ fields_behind),
  length-append (entry_units (entry_keys c)) fields_behind,
  length_entry_units (entry_keys c),
  keys_bounded c (fits c h),
)
