-- What is written of encoded fields is what the merge's definitions have. Assumes nothing.
use Rattle.std.specs.Prelude.{Option, Some, None}
use Prim.Native.Nat.{ℕ, ◌≤◌}
use native.Mathlib.Omega.{arith}
use mathlib.Core.Path.{◌≡◌, refl, sym, ap, ap₂, ◌∙◌}
use mathlib.Core.List.{List, [], ◌∷◌, ◌++◌, append_assoc, append-nil}
use mathlib.Core.Bool.{Bool, true}
use lib.ListN.{length}
use Rattle.format.specs.Format.{Format, below, option, list, enum, ◌∣◌, nothing, via, ◌⊗◌}
use Rattle.model.specs.Event.{Text, Tag, Organizer, Attendee, EventStatus, Transparency, Visibility, NormalizedEvent, ProviderEvent}
use Rattle.model.specs.Parts.{Role, Field, FieldValue}
use Rattle.model.specs.Limits.{max_attendees}
use Rattle.model.specs.Shapes.{field_from}
use Rattle.model.specs.Formats.{short_text, tag, organizer_f, attendee_f, status_f, transparency_f, visibility_f, fields_f, field_f, field_value_f, conflict_f, refused_f}
use Rattle.model.specs.Merge.{Verdict, verdict, Merged, unreported, conflicting, refusing, merge_part, is_owner, Key, Keyed, keyed, entry_at, extend, entries_at, key_order, merge_attendees, merge}
use Rattle.model.proofs.MergeKeys.{order_length, length_keyed}
use Rattle.frame.specs.Read.{start}
use Rattle.comparison.specs.Bytes.{raw}
use Rattle.units.specs.Units.{unit_bytes, unit_items, units_items, value_item, conflict_items, refused_items, owned_unit}
use Rattle.merge.specs.Reports.{attendee_items, report_items, field_bytes}
use Rattle.merge.proofs.Stood.{Stood, stood_alone}
use Rattle.merge.proofs.UnitParts.{part_0, part_1, part_2, part_3, part_4, part_5, part_6, part_7, part_8, part_9, part_10}
use Rattle.merge.proofs.Items.{encs, encs_append, encs_flat, encs_length, one_of, one_same, items}
use Rattle.merge.proofs.Judging.{judged, part_judged}
use Rattle.merge.proofs.Walk.{Writes, attendees_items}

-- one unit
module _ {A : Type 0} (which : ℕ) (f : Format A) (value : A → FieldValue) (field : Field) (is : (x : A) → field_value_f.enc (value x) ≡ field_from field ∷ f.enc x) (b o t : A) where
  abbrev one : A → List (List ℕ)
  one v = f.enc v ∷ []

  by_verdict : (v : Verdict) → one_of which (value_item v (f.enc o) (f.enc t) ∷ []) (conflict_items v (field_from field) (f.enc b) (f.enc o) (f.enc t)) (refused_items v (field_from field))
      ≡ items which one (judged v value field None b o t)
  unfolding unreported conflicting refusing conflict_f refused_f field_f option via ◌⊗◌ enum ◌∣◌ nothing below
  by_verdict Verdict.Theirs = refl
  by_verdict Verdict.Ours = refl
  by_verdict Verdict.Conflict = one_same which refl (rw (is b, is o, is t)) refl
  by_verdict Verdict.Refused = refl

  pub unit_is : (owned : Bool) → unit_items which (field_from field) (f.enc b) (f.enc o) (f.enc t) owned ≡ items which one (merge_part f value field None owned b o t)
  unfolding unit_items
  unit_is owned =
      by_verdict (verdict raw (f.enc b) (f.enc o) (f.enc t) owned) ∙ ap (λ (m : Merged A). items which one m) (sym (part_judged f value field None owned b o t))

-- a unit's value as a field's value: the field's place and the same bytes

title_value : (x : Option Text) → field_value_f.enc (FieldValue.Title x) ≡ 0 ∷ (option short_text).enc x
unfolding field_value_f via enum ◌∣◌
title_value x = refl

times_value : (x : Tag) → field_value_f.enc (FieldValue.Times x) ≡ 1 ∷ tag.enc x
unfolding field_value_f via enum ◌∣◌
times_value x = refl

recurrence_value : (x : Option Tag) → field_value_f.enc (FieldValue.Recurrence x) ≡ 2 ∷ (option tag).enc x
unfolding field_value_f via enum ◌∣◌
recurrence_value x = refl

organizer_value : (x : Option Organizer) → field_value_f.enc (FieldValue.Organizer x) ≡ 3 ∷ (option organizer_f).enc x
unfolding field_value_f via enum ◌∣◌
organizer_value x = refl

location_value : (x : Option Text) → field_value_f.enc (FieldValue.Location x) ≡ 5 ∷ (option short_text).enc x
unfolding field_value_f via enum ◌∣◌
location_value x = refl

description_value : (x : Option Tag) → field_value_f.enc (FieldValue.Description x) ≡ 6 ∷ (option tag).enc x
unfolding field_value_f via enum ◌∣◌
description_value x = refl

status_value : (x : EventStatus) → field_value_f.enc (FieldValue.Status x) ≡ 7 ∷ status_f.enc x
unfolding field_value_f via enum ◌∣◌
status_value x = refl

transparency_value : (x : Transparency) → field_value_f.enc (FieldValue.Transparency x) ≡ 8 ∷ transparency_f.enc x
unfolding field_value_f via enum ◌∣◌
transparency_value x = refl

visibility_value : (x : Visibility) → field_value_f.enc (FieldValue.Visibility x) ≡ 9 ∷ visibility_f.enc x
unfolding field_value_f via enum ◌∣◌
visibility_value x = refl

reminders_value : (x : Tag) → field_value_f.enc (FieldValue.Reminders x) ≡ 10 ∷ tag.enc x
unfolding field_value_f via enum ◌∣◌
reminders_value x = refl

-- the merged parts
module _ (role : Role) (b o t : NormalizedEvent) where
  abbrev title_part : Merged (Option Text)
  title_part = merge_part (option short_text) FieldValue.Title Field.Title None (is_owner role) b.title o.title t.title

  abbrev times_part : Merged Tag
  times_part = merge_part tag FieldValue.Times Field.Times None (is_owner role) b.times o.times t.times

  abbrev recurrence_part : Merged (Option Tag)
  recurrence_part = merge_part (option tag) FieldValue.Recurrence Field.Recurrence None (is_owner role) b.recurrence o.recurrence t.recurrence

  abbrev organizer_part : Merged (Option Organizer)
  organizer_part = merge_part (option organizer_f) FieldValue.Organizer Field.Organizer None (is_owner role) b.organizer o.organizer t.organizer

  abbrev attendees_part : Merged (List Attendee)
  attendees_part = merge_attendees role b.attendees o.attendees t.attendees

  abbrev location_part : Merged (Option Text)
  location_part = merge_part (option short_text) FieldValue.Location Field.Location None (is_owner role) b.location o.location t.location

  abbrev description_part : Merged (Option Tag)
  description_part = merge_part (option tag) FieldValue.Description Field.Description None (is_owner role) b.description o.description t.description

  abbrev status_part : Merged EventStatus
  status_part = merge_part status_f FieldValue.Status Field.Status None (is_owner role) b.status o.status t.status

  abbrev transparency_part : Merged Transparency
  transparency_part = merge_part transparency_f FieldValue.Transparency Field.Transparency None (is_owner role) b.transparency o.transparency t.transparency

  abbrev visibility_part : Merged Visibility
  visibility_part = merge_part visibility_f FieldValue.Visibility Field.Visibility None (is_owner role) b.visibility o.visibility t.visibility

  abbrev reminders_part : Merged Tag
  reminders_part = merge_part tag FieldValue.Reminders Field.Reminders None true b.reminders o.reminders t.reminders

attendees_stood : {s : List ℕ} {e : NormalizedEvent} → Stood fields_f s start e → Stood (list max_attendees attendee_f) (unit_bytes s 4) start e.attendees
unfolding fields_f via ◌⊗◌
attendees_stood S = stood_alone S.fine.1.1.1.1.0 (part_4 S)

module _ (which : ℕ) {owner : Bool} {me : Text} {role : Role} (W : Writes owner me role) {base ours theirs : List ℕ} {b o t : NormalizedEvent}
    (B : Stood fields_f base start b) (O : Stood fields_f ours start o) (R : Stood fields_f theirs start t) where
  unit_0 : unit_items which 0 (unit_bytes base 0) (unit_bytes ours 0) (unit_bytes theirs 0) (owned_unit owner 0) ≡ items which (λ v. (option short_text).enc v ∷ []) (title_part role b o t)
  unit_0 = rw (part_0 B, part_0 O, part_0 R, W.owner_is) (unit_is which (option short_text) FieldValue.Title Field.Title title_value b.title o.title t.title (is_owner role))

  unit_1 : unit_items which 1 (unit_bytes base 1) (unit_bytes ours 1) (unit_bytes theirs 1) (owned_unit owner 1) ≡ items which (λ v. tag.enc v ∷ []) (times_part role b o t)
  unit_1 = rw (part_1 B, part_1 O, part_1 R, W.owner_is) (unit_is which tag FieldValue.Times Field.Times times_value b.times o.times t.times (is_owner role))

  unit_2 : unit_items which 2 (unit_bytes base 2) (unit_bytes ours 2) (unit_bytes theirs 2) (owned_unit owner 2) ≡ items which (λ v. (option tag).enc v ∷ []) (recurrence_part role b o t)
  unit_2 = rw (part_2 B, part_2 O, part_2 R, W.owner_is) (unit_is which (option tag) FieldValue.Recurrence Field.Recurrence recurrence_value b.recurrence o.recurrence t.recurrence (is_owner role))

  unit_3 : unit_items which 3 (unit_bytes base 3) (unit_bytes ours 3) (unit_bytes theirs 3) (owned_unit owner 3) ≡ items which (λ v. (option organizer_f).enc v ∷ []) (organizer_part role b o t)
  unit_3 = rw (part_3 B, part_3 O, part_3 R, W.owner_is) (unit_is which (option organizer_f) FieldValue.Organizer Field.Organizer organizer_value b.organizer o.organizer t.organizer (is_owner role))

  unit_5 : unit_items which 5 (unit_bytes base 5) (unit_bytes ours 5) (unit_bytes theirs 5) (owned_unit owner 5) ≡ items which (λ v. (option short_text).enc v ∷ []) (location_part role b o t)
  unit_5 = rw (part_5 B, part_5 O, part_5 R, W.owner_is) (unit_is which (option short_text) FieldValue.Location Field.Location location_value b.location o.location t.location (is_owner role))

  unit_6 : unit_items which 6 (unit_bytes base 6) (unit_bytes ours 6) (unit_bytes theirs 6) (owned_unit owner 6) ≡ items which (λ v. (option tag).enc v ∷ []) (description_part role b o t)
  unit_6 = rw (part_6 B, part_6 O, part_6 R, W.owner_is) (unit_is which (option tag) FieldValue.Description Field.Description description_value b.description o.description t.description (is_owner role))

  unit_7 : unit_items which 7 (unit_bytes base 7) (unit_bytes ours 7) (unit_bytes theirs 7) (owned_unit owner 7) ≡ items which (λ v. status_f.enc v ∷ []) (status_part role b o t)
  unit_7 = rw (part_7 B, part_7 O, part_7 R, W.owner_is) (unit_is which status_f FieldValue.Status Field.Status status_value b.status o.status t.status (is_owner role))

  unit_8 : unit_items which 8 (unit_bytes base 8) (unit_bytes ours 8) (unit_bytes theirs 8) (owned_unit owner 8) ≡ items which (λ v. transparency_f.enc v ∷ []) (transparency_part role b o t)
  unit_8 = rw (part_8 B, part_8 O, part_8 R, W.owner_is) (unit_is which transparency_f FieldValue.Transparency Field.Transparency transparency_value b.transparency o.transparency t.transparency (is_owner role))

  unit_9 : unit_items which 9 (unit_bytes base 9) (unit_bytes ours 9) (unit_bytes theirs 9) (owned_unit owner 9) ≡ items which (λ v. visibility_f.enc v ∷ []) (visibility_part role b o t)
  unit_9 = rw (part_9 B, part_9 O, part_9 R, W.owner_is) (unit_is which visibility_f FieldValue.Visibility Field.Visibility visibility_value b.visibility o.visibility t.visibility (is_owner role))

  unit_10 : unit_items which 10 (unit_bytes base 10) (unit_bytes ours 10) (unit_bytes theirs 10) (owned_unit owner 10) ≡ items which (λ v. tag.enc v ∷ []) (reminders_part role b o t)
  unit_10 = rw (part_10 B, part_10 O, part_10 R) (unit_is which tag FieldValue.Reminders Field.Reminders reminders_value b.reminders o.reminders t.reminders true)

  abbrev pub first : List (List ℕ)
  first = items which (λ v. (option short_text).enc v ∷ []) (title_part role b o t)
      ++ (items which (λ v. tag.enc v ∷ []) (times_part role b o t)
      ++ (items which (λ v. (option tag).enc v ∷ []) (recurrence_part role b o t)
      ++ (items which (λ v. (option organizer_f).enc v ∷ []) (organizer_part role b o t))))

  abbrev pub last : List (List ℕ)
  last = items which (λ v. (option short_text).enc v ∷ []) (location_part role b o t)
      ++ (items which (λ v. (option tag).enc v ∷ []) (description_part role b o t)
      ++ (items which (λ v. status_f.enc v ∷ []) (status_part role b o t)
      ++ (items which (λ v. transparency_f.enc v ∷ []) (transparency_part role b o t)
      ++ (items which (λ v. visibility_f.enc v ∷ []) (visibility_part role b o t)
      ++ (items which (λ v. tag.enc v ∷ []) (reminders_part role b o t))))))

  first_are : units_items which owner base ours theirs 0 4 ≡ first
  unfolding units_items
  first_are = ap₂ (λ (x y : List (List ℕ)). x ++ y) unit_0 (ap₂ (λ (x y : List (List ℕ)). x ++ y) unit_1 (ap₂ (λ (x y : List (List ℕ)). x ++ y) unit_2 (append-nil _ ∙ unit_3)))

  last_are : units_items which owner base ours theirs 5 6 ≡ last
  unfolding units_items
  last_are = ap₂ (λ (x y : List (List ℕ)). x ++ y) unit_5 (ap₂ (λ (x y : List (List ℕ)). x ++ y) unit_6 (ap₂ (λ (x y : List (List ℕ)). x ++ y) unit_7 (ap₂ (λ (x y : List (List ℕ)). x ++ y) unit_8 (ap₂ (λ (x y : List (List ℕ)). x ++ y) unit_9 (append-nil _ ∙ unit_10)))))

  attendees_are : attendee_items which owner me base ours theirs ≡ items which (encs attendee_f.enc) (attendees_part role b o t)
  unfolding attendee_items
  attendees_are = attendees_items which W (attendees_stood B) (attendees_stood O) (attendees_stood R)

  reports_are : report_items which owner me base ours theirs ≡ first ++ (items which (encs attendee_f.enc) (attendees_part role b o t) ++ last)
  unfolding report_items
  reports_are = ap₂ (λ (x y : List (List ℕ)). x ++ y) first_are (ap₂ (λ (x y : List (List ℕ)). x ++ y) attendees_are last_are)

four : (x y z w r : List ℕ) → (x ++ (y ++ (z ++ (w ++ [])))) ++ r ≡ x ++ (y ++ (z ++ (w ++ r)))
four x y z w r = rw (append-nil w, append_assoc x (y ++ (z ++ w)) r, append_assoc y (z ++ w) r, append_assoc z w r)

-- eleven lists joined
module _ {A : Type 0} (f : A → List ℕ) (x0 x1 x2 x3 x4 x5 x6 x7 x8 x9 x10 : List A) where
  pub eleven : encs f (x0 ++ x1 ++ x2 ++ x3 ++ x4 ++ x5 ++ x6 ++ x7 ++ x8 ++ x9 ++ x10)
      ≡ (encs f x0 ++ (encs f x1 ++ (encs f x2 ++ (encs f x3)))) ++ (encs f x4 ++ (encs f x5 ++ (encs f x6 ++ (encs f x7 ++ (encs f x8 ++ (encs f x9 ++ (encs f x10)))))))
  eleven = simp (encs_append, append_assoc)

module _ {owner : Bool} {me : Text} {role : Role} (W : Writes owner me role) {base ours theirs : List ℕ} {b o : NormalizedEvent} (t : ProviderEvent)
    (B : Stood fields_f base start b) (O : Stood fields_f ours start o) (R : Stood fields_f theirs start t.fields) where
  pub conflicts_are : report_items 1 owner me base ours theirs ≡ encs conflict_f.enc (merge b o t role).conflicts
  unfolding merge
  conflicts_are = reports_are 1 W B O R ∙ sym (eleven conflict_f.enc (title_part role b o t.fields).conflicts (times_part role b o t.fields).conflicts (recurrence_part role b o t.fields).conflicts (organizer_part role b o t.fields).conflicts (attendees_part role b o t.fields).conflicts (location_part role b o t.fields).conflicts (description_part role b o t.fields).conflicts (status_part role b o t.fields).conflicts (transparency_part role b o t.fields).conflicts (visibility_part role b o t.fields).conflicts (reminders_part role b o t.fields).conflicts)

  pub refused_are : report_items 2 owner me base ours theirs ≡ encs refused_f.enc (merge b o t role).refused
  unfolding merge
  refused_are = reports_are 2 W B O R ∙ sym (eleven refused_f.enc (title_part role b o t.fields).refused (times_part role b o t.fields).refused (recurrence_part role b o t.fields).refused (organizer_part role b o t.fields).refused (attendees_part role b o t.fields).refused (location_part role b o t.fields).refused (description_part role b o t.fields).refused (status_part role b o t.fields).refused (transparency_part role b o t.fields).refused (visibility_part role b o t.fields).refused (reminders_part role b o t.fields).refused)

  pub count_is : length (attendee_items 0 owner me base ours theirs) ≡ length (merge b o t role).event.fields.attendees
  unfolding merge
  count_is = ap (λ (l : List (List ℕ)). length l) (attendees_are 0 W B O R) ∙ encs_length attendee_f.enc (attendees_part role b o t.fields).value

  pub fields_are : (n : ℕ) → n ≡ length (merge b o t role).event.fields.attendees → field_bytes n owner me base ours theirs ≡ fields_f.enc (merge b o t role).event.fields
  unfolding merge field_bytes fields_f via ◌⊗◌ list
  fields_are n e =
      rw (e, first_are 0 W B O R, attendees_are 0 W B O R, last_are 0 W B O R, encs_flat attendee_f.enc (attendees_part role b o t.fields).value, append-nil (tag.enc (reminders_part role b o t.fields).value))
      (four ((option short_text).enc (title_part role b o t.fields).value) (tag.enc (times_part role b o t.fields).value) ((option tag).enc (recurrence_part role b o t.fields).value) ((option organizer_f).enc (organizer_part role b o t.fields).value) _)

-- there are at most as many attendees as keys

entries_few : (role : Role) (b o t : Keyed) (ks : List Key) → length (entries_at role b o t ks).value ≤ length ks
unfolding entries_at unreported extend
entries_few role b o t [] = omega arith
entries_few role b o t (k ∷ ks) = go (entry_at role b o t k).value (entries_few role b o t ks)
  where
    go : (x : Option Attendee) → length (entries_at role b o t ks).value ≤ length ks → length (extend role b o t x (entries_at role b o t ks).value) ≤ length (k ∷ ks)
    go None h = omega (arith, h)
    go (Some a) h = omega (arith, h)

few_attendees : (e : NormalizedEvent) → fields_f.Ok e → length e.attendees ≤ 8
unfolding fields_f via ◌⊗◌ list max_attendees
few_attendees e k = k.1.1.1.1.0.0

pub merged_few : (b o : NormalizedEvent) (t : ProviderEvent) (role : Role) → fields_f.Ok o → fields_f.Ok t.fields → length (merge b o t role).event.fields.attendees ≤ 16
unfolding merge merge_attendees
merged_few b o t role p q =
    omega (
      arith,
      entries_few role (keyed b.attendees) (keyed o.attendees) (keyed t.fields.attendees) (key_order (keyed o.attendees) (keyed t.fields.attendees)),
      order_length (keyed o.attendees) (keyed t.fields.attendees),
      length_keyed o.attendees,
      length_keyed t.fields.attendees,
      few_attendees o p,
      few_attendees t.fields q,
    )
