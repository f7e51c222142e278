-- Laws of the merge's functions: one for each answer, its premises what the callees ensure. Assumes nothing.
use Prim.Native.Nat.{ℕ, ◌≤◌}
use native.Mathlib.Omega.{arith}
use mathlib.Core.Path.{◌≡◌, refl, ap, ◌∙◌, subst}
use mathlib.Core.List.{List, [], ◌∷◌, ◌++◌}
use mathlib.Core.Bool.{Bool, false, not}
use lib.Dec.{eqb}
use lib.ListN.{length, get_or}
use Rattle.format.specs.Format.{option, list, concat_map}
use Rattle.model.specs.Event.{NormalizedEvent, ProviderEvent}
use Rattle.model.specs.Parts.{Role}
use Rattle.model.specs.Limits.{max_count, max_conflict_bytes, max_refused_bytes}
use Rattle.model.specs.Maps.{same_text}
use Rattle.model.specs.Formats.{short_text, tag, u32, ids_f, fields_f, event_f, conflict_f, refused_f, conflicts_f, refusals_f}
use Rattle.model.specs.Merge.{merge}
use Rattle.model.specs.Demands.{Short}
use Rattle.model.proofs.Theorems.{no_merge_passes}
use Rattle.frame.specs.Read.{skips, start}
use Rattle.frame.specs.Meaning.{text_at}
use Rattle.frame.specs.declared.Cursor.{Cursor}
use Rattle.comparison.specs.Bytes.{span}
use Rattle.pens.specs.Writing.{Wrote, Listed, flat}
use Rattle.pens.specs.declared.Pen.{Pen}
use Rattle.pens.proofs.Laws.{wrote_then, wrote_as}
use Rattle.units.specs.Units.{unit_bytes, units_items}
use Rattle.attendees.specs.Entries.{entries_items}
use Rattle.merge.specs.Given.{Begins, Given}
use Rattle.merge.specs.Within.{WroteWithin}
use Rattle.merge.specs.Parts.{fields_place, fields_end, before_fields, fields_of, after_fields, event_of, owner_of, writer_of}
use Rattle.merge.specs.Reports.{attendee_items, report_items, field_bytes}
use Rattle.merge.proofs.Stood.{Stood, stood_start}
use Rattle.merge.proofs.Items.{encs_flat, encs_length}
use Rattle.merge.proofs.Walk.{Writes}
use Rattle.merge.proofs.Merging as merging
use Rattle.merge.proofs.Merging.{merged_few}
use Rattle.merge.proofs.EventParts.{fields_stood, fields_ok, with_fields, writes}
use Rattle.merge.proofs.Differing.{changed_is}

-- the parts of an event

module _ (s : List ℕ) where
  pub place_is : (p q r : Cursor) → p ≡ skips ids_f s start → q ≡ skips (option short_text) s p → r ≡ skips u32 s q → r ≡ fields_place s
  unfolding fields_place
  place_is p q r e f g = g ∙ rw (f, e)

  pub end_is : (p q : Cursor) → p ≡ fields_place s → q ≡ skips fields_f s p → q ≡ fields_end s
  unfolding fields_end
  end_is p q e f = f ∙ rw e

  pub before_is : (p : Cursor) (r : List ℕ) → p ≡ fields_place s → r ≡ span s 0 p.at → r ≡ before_fields s
  unfolding before_fields
  before_is p r e f = f ∙ rw e

  pub of_is : (p q : Cursor) (r : List ℕ) → p ≡ fields_place s → q ≡ fields_end s → r ≡ span s p.at q.at → r ≡ fields_of s
  unfolding fields_of
  of_is p q r e f g = g ∙ rw (e, f)

  pub after_is : (p q : Cursor) (r : List ℕ) → p ≡ fields_end s → q ≡ skips tag s p → r ≡ span s p.at q.at → r ≡ after_fields s
  unfolding after_fields
  after_is p q r e f g = g ∙ rw (f, e)

  pub event_is : (p : Cursor) (r : List ℕ) → p ≡ skips event_f s start → r ≡ span s 0 p.at → r ≡ event_of s
  unfolding event_of
  event_is p r e f = f ∙ rw e

-- the role

pub owner_none : (s : List ℕ) → length s ≡ 0 → false ≡ owner_of s
unfolding owner_of
owner_none [] h = refl
owner_none (x ∷ s) h = absurd (omega arith)

pub owner_first : (s : List ℕ) → (length s ≡ 0 → ⊥) → eqb (get_or s 0 0) 0 ≡ owner_of s
unfolding owner_of
owner_first [] h = absurd (h refl)
owner_first (x ∷ s) h = refl

pub writer_is : (s r : List ℕ) → r ≡ text_at s 1 → r ≡ writer_of s
unfolding writer_of
writer_is s r e = e

-- what is written, byte by byte

module _ (owner : Bool) (me base ours theirs b o t : List ℕ) (e : b ≡ unit_bytes base 4) (f : o ≡ unit_bytes ours 4) (g : t ≡ unit_bytes theirs 4) where
  pub attendees_are : (which : ℕ) → entries_items which owner me b o t ≡ attendee_items which owner me base ours theirs
  unfolding attendee_items
  attendees_are which = rw (e, f, g)

  pub reports_are : (which : ℕ) → units_items which owner base ours theirs 0 4 ++ (entries_items which owner me b o t ++ units_items which owner base ours theirs 5 6)
      ≡ report_items which owner me base ours theirs
  unfolding report_items
  reports_are which = rw (attendees_are which)

  pub fields_are : (which n : ℕ) → which ≡ 0
      → flat (units_items which owner base ours theirs 0 4) ++ ((n ∷ []) ++ (flat (entries_items which owner me b o t) ++ flat (units_items which owner base ours theirs 5 6)))
      ≡ field_bytes n owner me base ours theirs
  unfolding field_bytes
  fields_are which n h = rw (h, attendees_are 0)

pub counted : {a b : List ℕ} {p q : Pen} {m : ℕ} {xs ys : List (List ℕ)} → Listed a b p 0 q m xs → xs ≡ ys → length ys ≤ 255 → m ≡ length ys
counted L e h = L.count (rw e (omega arith)) ∙ rw e (omega arith)

-- the count and the items
pub list_is : {a b c : List ℕ} {p q r : Pen} {n m k : ℕ} (xs : List (List ℕ)) → (length xs ≤ 255 → n ≡ length xs)
    → Wrote a b p q (n ∷ []) → Listed b c q m r k xs → length xs ≤ 255 → Wrote a c p r (length xs ∷ flat xs)
list_is {a = a} {c = c} {p = p} {r = r} xs e W L h = subst (λ j. Wrote a c p r (j ∷ flat xs)) (e h) (wrote_then W L.pen)

-- against the merge's definitions

module _ {base ours theirs role : List ℕ} {b o : NormalizedEvent} {t : ProviderEvent} {by : Role} (G : Given base ours theirs role b o t by) where
  short : Short (merge b o t by)
  short = no_merge_passes b o t by G.base.fits G.ours.fits (fields_ok G.theirs)

  module _ {owner : Bool} {me f : List ℕ} (e : owner ≡ owner_of role) (g : me ≡ writer_of role) (h : f ≡ fields_of theirs) where
    writer : Writes owner me by
    writer = rw (e, g) (writes by G.role)

    fields : Stood fields_f f start t.fields
    fields = rw h (fields_stood G.theirs)

    pub attendees_count : (r : ℕ) → (length (attendee_items 0 owner me base ours f) ≤ 255 → r ≡ length (attendee_items 0 owner me base ours f))
        → r ≡ length (merge b o t by).event.fields.attendees
    attendees_count r k =
        let c = merging.count_is writer t (stood_start G.base) (stood_start G.ours) fields in
        k (omega (arith, c, merged_few b o t by G.ours.fits (fields_ok G.theirs))) ∙ c

    pub event_written : {a₀ a₁ a₂ a₃ : List ℕ} {p₀ p₁ p₂ p₃ : Pen} (n : ℕ) {x y : List ℕ} → n ≡ length (merge b o t by).event.fields.attendees
        → x ≡ before_fields theirs → Wrote a₀ a₁ p₀ p₁ x → Wrote a₁ a₂ p₁ p₂ (field_bytes n owner me base ours f)
        → y ≡ after_fields theirs → Wrote a₂ a₃ p₂ p₃ y → Wrote a₀ a₃ p₀ p₃ (event_f.enc (merge b o t by).event)
    event_written n i u W₁ W₂ w W₃ =
        wrote_as (wrote_then W₁ (wrote_then W₂ W₃))
        (rw (u, w, merging.fields_are writer t (stood_start G.base) (stood_start G.ours) fields n i) (with_fields G.theirs b o by))

    module _ {a c : List ℕ} {p q : Pen} where
      pub conflicts_written : (length (report_items 1 owner me base ours f) ≤ 255 → Wrote a c p q (length (report_items 1 owner me base ours f) ∷ flat (report_items 1 owner me base ours f)))
          → WroteWithin max_conflict_bytes a c p q (conflicts_f.enc (merge b o t by).conflicts)
      unfolding conflicts_f list max_count
      conflicts_written k =
          let i = merging.conflicts_are writer t (stood_start G.base) (stood_start G.ours) fields in
          let n : length (report_items 1 owner me base ours f) ≡ length (merge b o t by).conflicts = ap (λ (l : List (List ℕ)). length l) i ∙ encs_length conflict_f.enc (merge b o t by).conflicts in
          let w : Wrote a c p q (length (merge b o t by).conflicts ∷ concat_map conflict_f.enc (merge b o t by).conflicts)
          = wrote_as (k (omega (arith, n, short.conflict_count))) (rw (n, i) (ap (λ (l : List ℕ). length (merge b o t by).conflicts ∷ l) (encs_flat conflict_f.enc (merge b o t by).conflicts))) in
          record { wrote = w; enough = λ j l. w.room j (omega (arith, l, short.conflicts)) }

      pub refused_written : (length (report_items 2 owner me base ours f) ≤ 255 → Wrote a c p q (length (report_items 2 owner me base ours f) ∷ flat (report_items 2 owner me base ours f)))
          → WroteWithin max_refused_bytes a c p q (refusals_f.enc (merge b o t by).refused)
      unfolding refusals_f list max_count
      refused_written k =
          let i = merging.refused_are writer t (stood_start G.base) (stood_start G.ours) fields in
          let n : length (report_items 2 owner me base ours f) ≡ length (merge b o t by).refused = ap (λ (l : List (List ℕ)). length l) i ∙ encs_length refused_f.enc (merge b o t by).refused in
          let w : Wrote a c p q (length (merge b o t by).refused ∷ concat_map refused_f.enc (merge b o t by).refused)
          = wrote_as (k (omega (arith, n, short.refused_count))) (rw (n, i) (ap (λ (l : List ℕ). length (merge b o t by).refused ∷ l) (encs_flat refused_f.enc (merge b o t by).refused))) in
          record { wrote = w; enough = λ j l. w.room j (omega (arith, l, short.refused)) }

pub differ_is : (s u x y : List ℕ) (r : Bool) → x ≡ event_of s → y ≡ event_of u → r ≡ same_text x y
    → (b o : NormalizedEvent) (t : ProviderEvent) (by : Role) → Begins event_f s (merge b o t by).event → Begins event_f u t → not r ≡ (merge b o t by).changed
differ_is s u x y r e f g b o t by M E = rw (g, e, f) (changed_is b o t by M E)
