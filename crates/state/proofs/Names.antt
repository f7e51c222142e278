-- Names by value, one after the other. Assumes nothing.
use Prim.Native.Nat.{ℕ, zero, suc, ◌<◌}
use native.Mathlib.Nat.{not-suc-le-zero, le_of_suc-le-suc}
use mathlib.Core.Path.{◌≡◌, refl, ap, ap₂, ◌∙◌, subst}
use mathlib.Core.List.{List, [], ◌∷◌}
use lib.ListN.{length, get_or}
use Rattle.format.specs.Format.{All}
use Rattle.tables.specs.Table.{Sized}
use Rattle.model.specs.Event.{Text}
use Rattle.model.specs.Maps.{map}
use Rattle.model.specs.Formats.{resource_id}
use Rattle.model.proofs.Fitting.{length-map, all_at}
use Rattle.state.specs.Layout.{name_slot}
use Rattle.state.specs.Values.{name_of, EachNamed}
use Rattle.state.proofs.Padded.{length_name, text_name_only}
use Rattle.state.proofs.Rows.{sized_rows, row_at}
use Rattle.state.proofs.Ops.{slot_named}

pub names_sized : (l : List Text) → All resource_id.Ok l → Sized 33 (map name_slot l)
names_sized l a = sized_rows name_slot 33 resource_id.Ok length_name l a

-- what names by value stand for
pub names_back : (l : List Text) → map name_of (map name_slot l) ≡ l
unfolding map
names_back [] = refl
names_back (x ∷ l) = ap₂ (λ (y : Text) (ys : List Text). y ∷ ys) (text_name_only x) (names_back l)

pub name_there : (names : List (List ℕ)) (i : ℕ) → i < length names → get_or (map name_of names) i [] ≡ name_of (get_or names i [])
unfolding map
name_there [] i h = absurd (not-suc-le-zero h)
name_there (x ∷ names) zero h = refl
name_there (x ∷ names) (suc i) h = name_there names i (le_of_suc-le-suc h)

pub each_named : (names : List (List ℕ)) (l : List Text) → names ≡ map name_slot l → All resource_id.Ok l → EachNamed names
each_named names l e a = record {
  named = λ i h.
      let k : i < length l = subst (λ (n : ℕ). i < n) (ap length e ∙ length-map name_slot l) h in
      let q : get_or names i [] ≡ name_slot (get_or l i []) = ap (λ (x : List (List ℕ)). get_or x i []) e ∙ row_at name_slot [] i l k in
      (slot_named (get_or names i []) (get_or l i []) (all_at resource_id.Ok [] l i a k) q).1;
}
