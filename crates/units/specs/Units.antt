-- What a unit's encoded parts give to the merged fields, to the conflicts and to the refused: the bytes of each item. Assumes nothing.
use Rattle.std.specs.Prelude.{ℕ, zero, suc, ◌+◌, List, [], ◌∷◌, ◌++◌, Bool, true, cond, eqb}
use Rattle.format.specs.Format.{option, list}
use Rattle.model.specs.Limits.{max_attendees}
use Rattle.model.specs.Formats.{short_text, tag, organizer_f, attendee_f, status_f, transparency_f, visibility_f}
use Rattle.model.specs.Merge.{Verdict, verdict}
use Rattle.frame.specs.Read.{skips, start}
use Rattle.frame.specs.declared.Cursor.{Cursor}
use Rattle.comparison.specs.Bytes.{raw, is_ours, is_conflict, is_refused, span}

abbrev pub value_item : Verdict → List ℕ → List ℕ → List ℕ
value_item v o t = cond (is_ours v) o t

abbrev pub unit_conflict : ℕ → List ℕ → List ℕ → List ℕ → List ℕ
unit_conflict k b o t = k ∷ 0 ∷ k ∷ (b ++ (k ∷ (o ++ (k ∷ t))))

abbrev pub conflict_items : Verdict → ℕ → List ℕ → List ℕ → List ℕ → List (List ℕ)
conflict_items v k b o t = cond (is_conflict v) (unit_conflict k b o t ∷ []) []

abbrev pub refused_items : Verdict → ℕ → List (List ℕ)
refused_items v k = cond (is_refused v) ((k ∷ 0 ∷ []) ∷ []) []

-- of the merged fields (0), the conflicts (1), the refused (2)
unfoldable pub unit_items : (which k : ℕ) (b o t : List ℕ) → Bool → List (List ℕ)
unit_items which k b o t owned =
    cond (eqb which 0) (value_item (verdict raw b o t owned) o t ∷ [])
    (cond (eqb which 1) (conflict_items (verdict raw b o t owned) k b o t)
    (refused_items (verdict raw b o t owned) k))

-- reminders are always owned
abbrev pub owned_unit : Bool → ℕ → Bool
owned_unit owner k = cond (eqb k 10) true owner

-- the place after the k-th unit
abbrev pub skip_unit : ℕ → List ℕ → Cursor → Cursor
skip_unit zero s c = skips (option short_text) s c
skip_unit (suc zero) s c = skips tag s c
skip_unit (suc (suc zero)) s c = skips (option tag) s c
skip_unit (suc (suc (suc zero))) s c = skips (option organizer_f) s c
skip_unit (suc (suc (suc (suc zero)))) s c = skips (list max_attendees attendee_f) s c
skip_unit (suc (suc (suc (suc (suc zero))))) s c = skips (option short_text) s c
skip_unit (suc (suc (suc (suc (suc (suc zero)))))) s c = skips (option tag) s c
skip_unit (suc (suc (suc (suc (suc (suc (suc zero))))))) s c = skips status_f s c
skip_unit (suc (suc (suc (suc (suc (suc (suc (suc zero)))))))) s c = skips transparency_f s c
skip_unit (suc (suc (suc (suc (suc (suc (suc (suc (suc zero))))))))) s c = skips visibility_f s c
skip_unit (suc (suc (suc (suc (suc (suc (suc (suc (suc (suc k)))))))))) s c = skips tag s c

-- the attendees' place among the units
abbrev pub attendees_unit : ℕ
attendees_unit = 4

-- the place of the k-th unit
unfoldable pub unit_at : List ℕ → ℕ → Cursor
unit_at s zero = start
unit_at s (suc k) = skip_unit k s (unit_at s k)

-- the bytes of the k-th unit
unfoldable pub unit_bytes : List ℕ → ℕ → List ℕ
unit_bytes s k = span s (unit_at s k).at (skip_unit k s (unit_at s k)).at

-- the items of n units from one on
unfoldable pub units_items : (which : ℕ) → Bool → (base ours theirs : List ℕ) → (from n : ℕ) → List (List ℕ)
units_items which owner base ours theirs k zero = []
units_items which owner base ours theirs k (suc n) =
    unit_items which k (unit_bytes base k) (unit_bytes ours k) (unit_bytes theirs k) (owned_unit owner k)
    ++ units_items which owner base ours theirs (k + 1) n
