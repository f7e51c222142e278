-- Laws of the names: one for each answer of each function, its premises the facts of the branches. Assumes nothing.
use Prim.Native.Nat.{ℕ, zero, suc, ◌+◌}
use native.Mathlib.Numerals.{add-one}
use mathlib.Core.Path.{◌≡◌, refl, sym, ap, ◌∙◌}
use mathlib.Core.List.{List, [], ◌∷◌, ◌++◌}
use mathlib.Core.Bool.{Bool, true, false, not, ◌&&◌, ◌||◌, and-true, and-false, or-true, or-false}
use lib.ListN.{replicate}
use Rattle.comparison.specs.Bytes.{same_folded}
use Rattle.attendees.specs.Entries.{entry_count, entry_bytes, address_of, own_of}
use Rattle.merge.specs.Parts.{owner_of, writer_of}
use Rattle.clerks_bytes.specs.Entries.{stands_in}
use Rattle.clerks_bytes.specs.Names.{pick, field_name, rest_name, reply_name, own_there_in, entry_names, new_name, new_names, unit_names}
use Rattle.clerks_bytes.specs.declared.names.Order.{Order}

module _ (o : Order) (r : ℕ) where
  pub rest_own : (own : Bool) → own ≡ true → r ≡ pick o o.first_owner false → r ≡ rest_name o own
  rest_own own e f = f ∙ ap (λ (x : Bool). pick o o.first_owner x) (sym (ap (λ (x : Bool). o.second_owner && not x) e ∙ and-false o.second_owner))

  pub rest_other : (own : Bool) → own ≡ false → r ≡ field_name o → r ≡ rest_name o own
  rest_other own e f = f ∙ ap (λ (x : Bool). pick o o.first_owner x) (sym (ap (λ (x : Bool). o.second_owner && not x) e ∙ and-true o.second_owner))

  pub reply_own : (own other : Bool) → own ≡ true → r ≡ o.first → r ≡ reply_name o own other
  reply_own own other e f =
      f ∙ ap (λ (x : Bool). pick o x (o.second_owner || other)) (sym (ap (λ (x : Bool). o.first_owner || x) e ∙ or-true o.first_owner))

  none_first : (own other : Bool) → own ≡ false → pick o o.first_owner (o.second_owner || other) ≡ reply_name o own other
  none_first own other e =
      ap (λ (x : Bool). pick o x (o.second_owner || other)) (sym (ap (λ (x : Bool). o.first_owner || x) e ∙ or-false o.first_owner))

  pub reply_other : (own other : Bool) → own ≡ false → other ≡ true → r ≡ pick o o.first_owner true → r ≡ reply_name o own other
  reply_other own other e g f =
      f ∙ (ap (λ (x : Bool). pick o o.first_owner x) (sym (ap (λ (x : Bool). o.second_owner || x) g ∙ or-true o.second_owner))
      ∙ none_first own other e)

  pub reply_neither : (own other : Bool) → own ≡ false → other ≡ false → r ≡ field_name o → r ≡ reply_name o own other
  reply_neither own other e g f =
      f ∙ (ap (λ (x : Bool). pick o o.first_owner x) (sym (ap (λ (x : Bool). o.second_owner || x) g ∙ or-false o.second_owner))
      ∙ none_first own other e)

-- one's own entry
module _ (role list address : List ℕ) (b : Bool) (e : b ≡ owner_of role) where
  pub there_owner : b ≡ true → false ≡ own_there_in role list address
  unfolding own_there_in own_of
  there_owner t = rw (← e, t)

  module _ (w : List ℕ) (d : Bool) (n : b ≡ false) (f : w ≡ writer_of role) (g : d ≡ same_folded w address) where
    pub there_own : d ≡ true → (r : Bool) → r ≡ stands_in list address → r ≡ own_there_in role list address
    unfolding own_there_in own_of
    there_own t r h = rw (← e, n, ← f, ← g, t) h

    pub there_other : d ≡ false → false ≡ own_there_in role list address
    unfolding own_there_in own_of
    there_other t = rw (← e, n, ← f, ← g, t)

-- an entry's names
pub entry_named : (o : Order) (p q list address : List ℕ) (x y : Bool) (r s : ℕ) → x ≡ own_there_in p list address → y ≡ own_there_in q list address
    → r ≡ rest_name o x → s ≡ reply_name o x y → ((r ∷ []) ++ (s ∷ [])) ≡ entry_names o p q list address
unfolding entry_names
entry_named o p q list address x y r s e f g h = rw (g, h, e, f)

module _ (o : Order) (p q list before also : List ℕ) where
  module _ (address : List ℕ) (x : Bool) (e : x ≡ stands_in before address) where
    pub new_before : x ≡ true → [] ≡ new_name o p q list before also address
    unfolding new_name
    new_before t = rw (← e, t)

    module _ (n : x ≡ false) (y : Bool) (f : y ≡ stands_in also address) where
      pub new_also : y ≡ true → [] ≡ new_name o p q list before also address
      unfolding new_name
      new_also t = rw (← e, n, ← f, t)

      pub new_neither : y ≡ false → entry_names o p q list address ≡ new_name o p q list before also address
      unfolding new_name
      new_neither t = rw (← e, n, ← f, t)

  pub new_zero : (entries : List ℕ) → [] ≡ new_names o p q list before also entries 0
  unfolding new_names
  new_zero entries = refl

  pub new_next : (entries : List ℕ) (i : ℕ) (e d : List ℕ) → e ≡ entry_bytes entries i → d ≡ address_of e
      → new_names o p q list before also entries i ++ new_name o p q list before also d ≡ new_names o p q list before also entries (i + 1)
  unfolding new_names
  new_next entries i e d f g = rw (add-one i, g, f)

-- a name so many times
pub repeat_next : (n x : ℕ) → replicate n x ++ (x ∷ []) ≡ replicate (n + 1) x
repeat_next n x = rw (add-one n) (go n)
  where
    go : (n : ℕ) → replicate n x ++ (x ∷ []) ≡ replicate (suc n) x
    go zero = refl
    go (suc n) = ap (λ (l : List ℕ). x ∷ l) (go n)

-- every unit's
pub units_named : (o : Order) (p q list one two none : List ℕ) (f : ℕ) → none ≡ [] → f ≡ field_name o
    → replicate 4 f ++ new_names o p q list none none list (entry_count list) ++ new_names o p q list list none one (entry_count one)
    ++ new_names o p q list list one two (entry_count two) ++ replicate 5 f ++ (o.first ∷ [])
    ≡ unit_names o p q list one two
unfolding unit_names
units_named o p q list one two none f e g = rw (e, g) refl
