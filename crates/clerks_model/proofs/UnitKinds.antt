-- The kinds of units: a field, which is one part of a merge; the rest of an entry; and its reply. Assumes nothing.
use Rattle.std.specs.Prelude.{Some, None}
use Rattle.format.proofs.Options.{Some_inj}
use mathlib.Core.Path.{◌≡◌, refl, sym, ap, ◌∙◌}
use mathlib.Core.Bool.{Bool, true, false}
use Rattle.format.specs.Format.{Format, option}
use Rattle.model.specs.Event.{Text, NormalizedEvent, ProviderEvent}
use Rattle.model.specs.Parts.{Role, Field, FieldValue}
use Rattle.model.specs.Formats.{tag, short_text, organizer_f, status_f, transparency_f, visibility_f}
use Rattle.model.specs.Merge.{merge_part, is_owner, merge}
use Rattle.model.proofs.MergeReports.{part_theirs}
use Rattle.clerks_model.specs.Units.{Unit, by_kind, value}
use Rattle.clerks_model.specs.Naming.{is_reminders}
use Rattle.clerks_model.proofs.Parts.{part_is, part_moved, part_owned, part_echo}

pub record FieldOf (u : Unit) : Type 1 where
  A : Type 0
  format : Format A
  get : NormalizedEvent → A
  of : A → FieldValue
  name : Field
  -- whether a writer owns it
  pub owned : Role → Bool
  pub owner_owns : owned Role.Owner ≡ true
  pub attendee_owns : (address : Text) → owned (Role.Attendee address) ≡ is_reminders u
  valued : (e : NormalizedEvent) → value u e ≡ Some (format.enc (get e))
  merged : (b o : NormalizedEvent) (t : ProviderEvent) (role : Role)
      → get (merge b o t role).event.fields ≡ (merge_part format of name None (owned role) (get b) (get o) (get t.fields)).value
  pub by_field : {B : Type 0} (field : B) (rest reply : Text → B) → by_kind field rest reply u ≡ field

pub data Kind : Unit → Type 1 where
  a_field : (u : Unit) → FieldOf u → Kind u
  a_rest : (key : Text) → Kind (Unit.Rest key)
  a_reply : (key : Text) → Kind (Unit.Reply key)

pub kind_of : (u : Unit) → Kind u
unfolding value merge is_owner is_reminders by_kind
kind_of (Unit.Rest key) = a_rest key
kind_of (Unit.Reply key) = a_reply key
kind_of Unit.Title = a_field Unit.Title (record {
  A = _;
  format = option short_text;
  get = λ e. e.title;
  of = FieldValue.Title;
  name = Field.Title;
  owned = is_owner;
  owner_owns = refl;
  attendee_owns = λ address. refl;
  valued = λ e. refl;
  merged = λ b o t role. refl;
  by_field = λ field rest reply. refl;
})
kind_of Unit.Times = a_field Unit.Times (record {
  A = _;
  format = tag;
  get = λ e. e.times;
  of = FieldValue.Times;
  name = Field.Times;
  owned = is_owner;
  owner_owns = refl;
  attendee_owns = λ address. refl;
  valued = λ e. refl;
  merged = λ b o t role. refl;
  by_field = λ field rest reply. refl;
})
kind_of Unit.Recurrence = a_field Unit.Recurrence (record {
  A = _;
  format = option tag;
  get = λ e. e.recurrence;
  of = FieldValue.Recurrence;
  name = Field.Recurrence;
  owned = is_owner;
  owner_owns = refl;
  attendee_owns = λ address. refl;
  valued = λ e. refl;
  merged = λ b o t role. refl;
  by_field = λ field rest reply. refl;
})
kind_of Unit.Organizer = a_field Unit.Organizer (record {
  A = _;
  format = option organizer_f;
  get = λ e. e.organizer;
  of = FieldValue.Organizer;
  name = Field.Organizer;
  owned = is_owner;
  owner_owns = refl;
  attendee_owns = λ address. refl;
  valued = λ e. refl;
  merged = λ b o t role. refl;
  by_field = λ field rest reply. refl;
})
kind_of Unit.Location = a_field Unit.Location (record {
  A = _;
  format = option short_text;
  get = λ e. e.location;
  of = FieldValue.Location;
  name = Field.Location;
  owned = is_owner;
  owner_owns = refl;
  attendee_owns = λ address. refl;
  valued = λ e. refl;
  merged = λ b o t role. refl;
  by_field = λ field rest reply. refl;
})
kind_of Unit.Description = a_field Unit.Description (record {
  A = _;
  format = option tag;
  get = λ e. e.description;
  of = FieldValue.Description;
  name = Field.Description;
  owned = is_owner;
  owner_owns = refl;
  attendee_owns = λ address. refl;
  valued = λ e. refl;
  merged = λ b o t role. refl;
  by_field = λ field rest reply. refl;
})
kind_of Unit.Status = a_field Unit.Status (record {
  A = _;
  format = status_f;
  get = λ e. e.status;
  of = FieldValue.Status;
  name = Field.Status;
  owned = is_owner;
  owner_owns = refl;
  attendee_owns = λ address. refl;
  valued = λ e. refl;
  merged = λ b o t role. refl;
  by_field = λ field rest reply. refl;
})
kind_of Unit.Transparency = a_field Unit.Transparency (record {
  A = _;
  format = transparency_f;
  get = λ e. e.transparency;
  of = FieldValue.Transparency;
  name = Field.Transparency;
  owned = is_owner;
  owner_owns = refl;
  attendee_owns = λ address. refl;
  valued = λ e. refl;
  merged = λ b o t role. refl;
  by_field = λ field rest reply. refl;
})
kind_of Unit.Visibility = a_field Unit.Visibility (record {
  A = _;
  format = visibility_f;
  get = λ e. e.visibility;
  of = FieldValue.Visibility;
  name = Field.Visibility;
  owned = is_owner;
  owner_owns = refl;
  attendee_owns = λ address. refl;
  valued = λ e. refl;
  merged = λ b o t role. refl;
  by_field = λ field rest reply. refl;
})
kind_of Unit.Reminders = a_field Unit.Reminders (record {
  A = _;
  format = tag;
  get = λ e. e.reminders;
  of = FieldValue.Reminders;
  name = Field.Reminders;
  owned = λ role. true;
  owner_owns = refl;
  attendee_owns = λ address. refl;
  valued = λ e. refl;
  merged = λ b o t role. refl;
  by_field = λ field rest reply. refl;
})

-- ---- a field after a merge

module _ {u : Unit} (f : FieldOf u) (b o : NormalizedEvent) (t : ProviderEvent) (role : Role) where
  abbrev part : f.A
  part = (merge_part f.format f.of f.name None (f.owned role) (f.get b) (f.get o) (f.get t.fields)).value

  field_is : value u (merge b o t role).event.fields ≡ Some (f.format.enc part)
  field_is = f.valued (merge b o t role).event.fields ∙ ap (λ (x : f.A). Some (f.format.enc x)) (f.merged b o t role)

  -- where it is not theirs, theirs is the base's
  pub field_moved : (value u (merge b o t role).event.fields ≡ value u t.fields → ⊥) → value u t.fields ≡ value u b
  field_moved n = f.valued t.fields
      ∙ ap Some (part_moved f.format (f.get b) (f.get o) (f.get t.fields) part (part_is f.format f.of f.name None (f.owned role) (f.get b) (f.get o) (f.get t.fields))
      (λ h. n (field_is ∙ ap Some h ∙ sym (f.valued t.fields))))
      ∙ sym (f.valued b)

  -- ours, where it is owned and theirs is the base's
  pub field_owned : f.owned role ≡ true → value u t.fields ≡ value u b → value u (merge b o t role).event.fields ≡ value u o
  field_owned h e = field_is
      ∙ ap Some (ap (λ (c : Bool). f.format.enc (merge_part f.format f.of f.name None c (f.get b) (f.get o) (f.get t.fields)).value) h
      ∙ part_owned f.format f.of f.name None (f.get b) (f.get o) (f.get t.fields) (Some_inj.0 (sym (f.valued t.fields) ∙ e ∙ f.valued b)))
      ∙ sym (f.valued o)

  -- theirs, where it is not owned
  pub field_kept : f.owned role ≡ false → value u (merge b o t role).event.fields ≡ value u t.fields
  field_kept h = field_is
      ∙ ap (λ (c : Bool). Some (f.format.enc (merge_part f.format f.of f.name None c (f.get b) (f.get o) (f.get t.fields)).value)) h
      ∙ ap (λ (x : f.A). Some (f.format.enc x)) (part_theirs f.format f.of f.name None (f.get b) (f.get o) (f.get t.fields)).value
      ∙ sym (f.valued t.fields)

-- theirs, where ours is the base
pub field_echo : {u : Unit} (f : FieldOf u) (b : NormalizedEvent) (t : ProviderEvent) (role : Role) → value u (merge b b t role).event.fields ≡ value u t.fields
field_echo f b t role = field_is f b b t role
    ∙ ap (λ (x : f.A). Some (f.format.enc x)) (part_echo f.format f.of f.name None (f.owned role) (f.get b) (f.get t.fields))
    ∙ sym (f.valued t.fields)
