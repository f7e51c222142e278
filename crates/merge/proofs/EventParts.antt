-- The parts of an event's bytes, and of a role's, are the encoded parts of the event and the role. Assumes nothing.
use Prim.Native.Nat.{ℕ}
use native.Mathlib.Omega.{arith}
use mathlib.Core.Path.{◌≡◌, refl, sym, ap, ◌∙◌}
use mathlib.Core.List.{List, [], ◌++◌, append_assoc}
use Rattle.format.specs.Format.{option, nothing, enum, ◌∣◌, ◌⊗◌, via}
use Rattle.format.proofs.FormatLaws.{pair_law, option_law}
use Rattle.model.specs.Event.{Text, NormalizedEvent, ProviderEvent}
use Rattle.model.specs.Parts.{Role}
use Rattle.model.specs.Shapes.{event_to, event_from}
use Rattle.model.specs.Formats.{short_text, tag, u32, ids_f, fields_f, event_f, role_f}
use Rattle.model.specs.Merge.{is_own, is_owner, merge}
use Rattle.model.proofs.FormatsLaws.{short_text_law, tag_law, u32_law, ids_f_law, fields_f_law, event_f_law}
use Rattle.frame.specs.Read.{skips, start, value_at, value_of}
use Rattle.frame.proofs.Steps.{skips_pair}
use Rattle.comparison.specs.Bytes.{same_folded}
use Rattle.attendees.specs.Entries.{own_of}
use Rattle.merge.specs.Given.{Begins}
use Rattle.merge.specs.Parts.{fields_place, fields_end, before_fields, fields_of, after_fields, event_of, owner_of, writer_of}
use Rattle.merge.proofs.Stood.{Stood, stood_start, stood_alone, stood_via, stood_first, stood_second, span_is}
use Rattle.merge.proofs.Walk.{Writes}

module _ {s : List ℕ} {t : ProviderEvent} (E : Begins event_f s t) where
  whole : Stood (ids_f ⊗ option short_text ⊗ u32 ⊗ fields_f ⊗ tag) s start (event_from t)
  unfolding event_f
  whole = stood_via event_to event_from _ (stood_start E)

  at_fields : Stood (fields_f ⊗ tag) s (fields_place s) (t.fields, t.passthrough)
  unfolding fields_place
  at_fields =
      stood_second u32 (fields_f ⊗ tag) u32_law
      (stood_second (option short_text) (u32 ⊗ fields_f ⊗ tag) (option_law short_text_law)
      (stood_second ids_f (option short_text ⊗ u32 ⊗ fields_f ⊗ tag) ids_f_law whole))

  pub fields_enc : fields_of s ≡ fields_f.enc t.fields
  unfolding fields_of fields_end
  fields_enc = span_is fields_f_law (stood_first fields_f tag fields_f_law at_fields)

  pub after_enc : after_fields s ≡ tag.enc t.passthrough
  unfolding after_fields fields_end
  after_enc = span_is tag_law (stood_second fields_f tag fields_f_law at_fields)

  pub event_enc : event_of s ≡ event_f.enc t
  unfolding event_of
  event_enc = span_is event_f_law (stood_start E)

  pub fields_ok : fields_f.Ok t.fields
  unfolding event_f via ◌⊗◌
  fields_ok = E.fits.1.1.1.0

  pub fields_stood : Stood fields_f (fields_of s) start t.fields
  fields_stood = stood_alone fields_ok fields_enc

  -- what comes before the fields
  abbrev head_bytes : List ℕ
  head_bytes = ids_f.enc t.ids ++ ((option short_text).enc t.revision ++ u32.enc t.mapper_version)

  split : (x : List ℕ) → ids_f.enc t.ids ++ ((option short_text).enc t.revision ++ (u32.enc t.mapper_version ++ x)) ≡ head_bytes ++ x
  split x =
      sym (append_assoc (ids_f.enc t.ids) ((option short_text).enc t.revision ++ u32.enc t.mapper_version) x
      ∙ ap (λ (y : List ℕ). ids_f.enc t.ids ++ y) (append_assoc ((option short_text).enc t.revision) (u32.enc t.mapper_version) x))

  head_stood : Stood (ids_f ⊗ option short_text ⊗ u32) s start (t.ids, (t.revision, t.mapper_version))
  unfolding event_f via ◌⊗◌
  head_stood = record {
    ok = refl;
    fits = omega arith;
    tail = (fields_f.enc t.fields ++ tag.enc t.passthrough) ++ E.rest;
    is = E.bytes ∙ (ap (λ (y : List ℕ). y ++ E.rest) (split (fields_f.enc t.fields ++ tag.enc t.passthrough))
        ∙ append_assoc head_bytes (fields_f.enc t.fields ++ tag.enc t.passthrough) E.rest);
    fine = (E.fits.0, (E.fits.1.0, E.fits.1.1.0));
  }

  head_place : skips (ids_f ⊗ option short_text ⊗ u32) s start ≡ fields_place s
  unfolding fields_place
  head_place = skips_pair ids_f_law s (option short_text ⊗ u32) start ∙ skips_pair (option_law short_text_law) s u32 (skips ids_f s start)

  before_enc : before_fields s ≡ head_bytes
  unfolding before_fields ◌⊗◌
  before_enc = rw (← head_place) (span_is (pair_law ids_f_law (pair_law (option_law short_text_law) u32_law)) head_stood)

  -- the event with other fields
  pub with_fields : (b o : NormalizedEvent) (role : Role)
      → before_fields s ++ (fields_f.enc (merge b o t role).event.fields ++ after_fields s) ≡ event_f.enc (merge b o t role).event
  unfolding merge event_f via ◌⊗◌
  with_fields b o role = rw (before_enc, after_enc) (sym (split (fields_f.enc (merge b o t role).event.fields ++ tag.enc t.passthrough)))

-- the role

owner_said : {s : List ℕ} (r : Role) → Begins role_f s r → owner_of s ≡ is_owner r
unfolding owner_of role_f is_owner via enum ◌∣◌ nothing
owner_said Role.Owner B = rw B.bytes
owner_said (Role.Attendee a) B = rw B.bytes

writer_said : {s : List ℕ} (a : Text) → Begins role_f s (Role.Attendee a) → writer_of s ≡ a
unfolding writer_of value_at role_f via enum ◌∣◌
writer_said a B = rw B.bytes (ap (value_of []) (short_text_law.writes a B.fits B.rest))

pub writes : {s : List ℕ} (r : Role) → Begins role_f s r → Writes (owner_of s) (writer_of s) r
unfolding own_of is_own is_owner same_folded
writes Role.Owner B = record { owner_is = owner_said Role.Owner B; own_is = λ w n. rw (owner_said Role.Owner B) }
writes (Role.Attendee a) B = record { owner_is = owner_said (Role.Attendee a) B; own_is = λ w n. rw (owner_said (Role.Attendee a) B, writer_said a B) }
