-- What is written of a merge: the merged fields, and the items of the conflicts (1) and of the refused (2). Assumes nothing.
use Rattle.std.specs.Prelude.{ℕ, List, ◌∷◌, ◌++◌, Bool}
use Rattle.pens.specs.Writing.{flat}
use Rattle.units.specs.Units.{unit_bytes, units_items}
use Rattle.attendees.specs.Entries.{entries_items}

module _ (which : ℕ) (owner : Bool) (me base ours theirs : List ℕ) where
  unfoldable pub attendee_items : List (List ℕ)
  attendee_items = entries_items which owner me (unit_bytes base 4) (unit_bytes ours 4) (unit_bytes theirs 4)

  unfoldable pub report_items : List (List ℕ)
  report_items = units_items which owner base ours theirs 0 4 ++ (attendee_items ++ units_items which owner base ours theirs 5 6)

-- of n attendees
unfoldable pub field_bytes : ℕ → Bool → (me base ours theirs : List ℕ) → List ℕ
field_bytes n owner me base ours theirs =
    flat (units_items 0 owner base ours theirs 0 4)
    ++ (n ∷ (flat (attendee_items 0 owner me base ours theirs) ++ flat (units_items 0 owner base ours theirs 5 6)))
