-- A part of a merge is theirs, or ours where theirs is the base. Assumes nothing.
use Rattle.std.specs.Prelude.{Option, Some, None}
use mathlib.Core.Path.{◌≡◌, refl, sym, ap, ◌∙◌}
use mathlib.Core.Bool.{Bool, true, false, not, ◌||◌, true≢false}
use Rattle.format.specs.Format.{Format}
use Rattle.model.specs.Event.{Text, Attendee, Participation}
use Rattle.model.specs.Parts.{Field, FieldValue}
use Rattle.model.specs.Maps.{when◌then◌else◌, same_text}
use Rattle.model.specs.Formats.{same, participation_f}
use Rattle.model.specs.Merge.{Verdict, verdict, Merged, unreported, conflicting, refusing, merge_part, own_reply}
use Rattle.model.proofs.Tables.{same_self, same_true}

module _ {A : Type 0} (f : Format A) where
  pub data Part (b o t : A) : A → Type 0 where
    stays : Part b o t t
    moves : same f t b ≡ true → Part b o t o

  pub same_bytes : (a b : A) → same f a b ≡ true → f.enc a ≡ f.enc b
  unfolding same
  same_bytes a b e = same_true (f.enc a) (f.enc b) e

  same_enc : (a b : A) → f.enc a ≡ f.enc b → same f a b ≡ true
  unfolding same
  same_enc a b e = ap (same_text (f.enc a)) (sym e) ∙ same_self (f.enc a)

  -- where the bytes are not theirs, theirs are the base's
  pub part_moved : (b o t v : A) → Part b o t v → (f.enc v ≡ f.enc t → ⊥) → f.enc t ≡ f.enc b
  part_moved b o t v stays n = absurd (n refl)
  part_moved b o t v (moves e) n = same_bytes t b e

  pub part_ok : (b o t v : A) → Part b o t v → f.Ok o → f.Ok t → f.Ok v
  part_ok b o t v stays p q = q
  part_ok b o t v (moves e) p q = p

  module _ (value : A → FieldValue) (field : Field) (attendee : Option Text) where
    -- by the three comparisons of the verdict
    abbrev by_verdict : (b o t : A) → (x y z : Bool) → A
    by_verdict b o t x y z = (elim (when x then Verdict.Theirs else (when y then Verdict.Refused else (when z then Verdict.Ours else Verdict.Conflict))) as (λ v. Merged A) [
      | Verdict.Theirs ↦ unreported t
      | Verdict.Ours ↦ unreported o
      | Verdict.Conflict ↦ conflicting field attendee (value b) (value o) (value t) t
      | Verdict.Refused ↦ refusing field attendee t
    ]).value

    pub part_is : (owned : Bool) (b o t : A) → Part b o t (merge_part f value field attendee owned b o t).value
    unfolding merge_part verdict when◌then◌else◌ unreported conflicting refusing
    part_is owned b o t = go (same f o b || same f o t) (not owned) (same f t b) refl
      where
        go : (x y z : Bool) → same f t b ≡ z → Part b o t (by_verdict b o t x y z)
        go true y z e = stays
        go false true z e = stays
        go false false true e = moves e
        go false false false e = stays

    -- ours, where it is owned and theirs has the base's bytes
    pub part_owned : (b o t : A) → f.enc t ≡ f.enc b → f.enc (merge_part f value field attendee true b o t).value ≡ f.enc o
    unfolding merge_part verdict when◌then◌else◌ unreported conflicting
    part_owned b o t e = go (same f o b) refl (same f o t) refl (same f t b) (same_enc t b e)
      where
        go : (x : Bool) → same f o b ≡ x → (y : Bool) → same f o t ≡ y → (z : Bool) → z ≡ true → f.enc (by_verdict b o t (x || y) false z) ≡ f.enc o
        go true p y q z h = e ∙ sym (same_bytes o b p)
        go false p true q z h = sym (same_bytes o t q)
        go false p false q true h = refl
        go false p false q false h = absurd (true≢false (sym h))

    -- theirs, where ours is the base
    pub part_echo : (owned : Bool) (b t : A) → (merge_part f value field attendee owned b b t).value ≡ t
    unfolding merge_part verdict when◌then◌else◌ unreported
    part_echo owned b t = go (same f b b) (same_enc b b refl)
      where
        go : (x : Bool) → x ≡ true → by_verdict b b t (x || same f b t) (not owned) (same f t b) ≡ t
        go true e = refl
        go false e = absurd (true≢false (sym e))

-- the reply of one's own entry is merged as a part that one owns. What is reported of it is not said
pub reply_part : (b o t : Attendee)
    → (own_reply b o t).value ≡ (merge_part participation_f (λ p. FieldValue.Attendee None) Field.Attendees None true b.participation o.participation t.participation).value
unfolding own_reply merge_part unreported conflicting refusing
reply_part b o t = go (verdict participation_f b.participation o.participation t.participation true)
  where
    go : (v : Verdict)
        → (elim v as (λ v. Merged Participation) [
          | Verdict.Theirs ↦ unreported t.participation
          | Verdict.Ours ↦ unreported o.participation
          | Verdict.Conflict ↦ conflicting Field.Attendees (Some t.address)
              (FieldValue.Attendee (Some b)) (FieldValue.Attendee (Some o)) (FieldValue.Attendee (Some t)) t.participation
          | Verdict.Refused ↦ unreported t.participation
        ]).value
        ≡ (elim v as (λ v. Merged Participation) [
          | Verdict.Theirs ↦ unreported t.participation
          | Verdict.Ours ↦ unreported o.participation
          | Verdict.Conflict ↦ conflicting Field.Attendees None (FieldValue.Attendee None) (FieldValue.Attendee None) (FieldValue.Attendee None) t.participation
          | Verdict.Refused ↦ refusing Field.Attendees None t.participation
        ]).value
    go Verdict.Theirs = refl
    go Verdict.Ours = refl
    go Verdict.Conflict = refl
    go Verdict.Refused = refl
