-- Two inserts into a map. Assumes nothing.
use Rattle.std.specs.Prelude.{Some, None}
use Rattle.format.proofs.Options.{Some-injective, None-ne-Some}
use Prim.Native.Nat.{Ordering}
use mathlib.Core.Path.{◌≡◌, refl, sym, ap, ap₂, ◌∙◌, subst}
use mathlib.Core.List.{[], ◌∷◌}
use Rattle.model.specs.State.{Map}
use Rattle.model.specs.Maps.{by, get, insert}
use mathlib.Core.Bool.{true, false}
use lib.Dec.{T}
use Rattle.model.proofs.Tables.{Order, turned, ordering_cases, lt≢eq}

no_less : {o : Ordering} → o ≡ Ordering.lt → o ≡ Ordering.gt → ⊥
unfolding by
no_less p q = let z : Ordering.lt ≡ Ordering.gt = sym p ∙ q in subst (λ o. T (by o true false false)) z tt

no_equal : {o : Ordering} → o ≡ Ordering.lt → o ≡ Ordering.eq → ⊥
no_equal p q = lt≢eq (sym p ∙ q)

module _ {K : Type 0} (order : K → K → Ordering) (laws : Order order) where
  turn_lt : (j k : K) → order j k ≡ Ordering.lt → order k j ≡ Ordering.gt
  turn_lt j k h = laws.turn j k ∙ ap turned h

  turn_gt : (j k : K) → order j k ≡ Ordering.gt → order k j ≡ Ordering.lt
  turn_gt j k h = laws.turn j k ∙ ap turned h

module _ {K : Type 0} (order : K → K → Ordering) (laws : Order order) {A : Type 0} where
  -- the second of two under one key
  pub insert_over : (k : K) (a b : A) (m : Map K A) → insert order k b (insert order k a m) ≡ insert order k b m
  unfolding insert by
  insert_over k a b [] = rw (laws.self k)
  insert_over k a b (e ∷ m) =
      ordering_cases (λ o. order k e.0 ≡ o → insert order k b (by o ((k, a) ∷ e ∷ m) ((k, a) ∷ m) (e ∷ insert order k a m)) ≡ by o ((k, b) ∷ e ∷ m) ((k, b) ∷ m) (e ∷ insert order k b m))
      (order k e.0)
      (λ h c. rw (laws.self k)) (λ h c. rw (laws.self k)) (λ h c. rw (h, insert_over k a b m)) refl

  -- what is there already
  pub insert_there : (k : K) (a : A) (m : Map K A) → get order k m ≡ Some a → insert order k a m ≡ m
  unfolding insert get by
  insert_there k a [] g = absurd (None-ne-Some a g)
  insert_there k a (e ∷ m) g =
      ordering_cases (λ o. order k e.0 ≡ o → by o None (Some e.1) (get order k m) ≡ Some a → by o ((k, a) ∷ e ∷ m) ((k, a) ∷ m) (e ∷ insert order k a m) ≡ e ∷ m)
      (order k e.0)
      (λ h c g. absurd (None-ne-Some a g))
      (λ h c g. ap₂ (λ (x : K) (y : A). (x, y) ∷ m) (laws.same k e.0 h) (sym (Some-injective e.1 a g)))
      (λ h c g. ap (λ (x : Map K A). e ∷ x) (insert_there k a m g)) refl g

  -- where j is less than k
  lesser_first : (j k : K) (b a : A) (m : Map K A) → order j k ≡ Ordering.lt → insert order k a (insert order j b m) ≡ insert order j b (insert order k a m)
  unfolding insert by
  lesser_first j k b a [] l = rw (l, turn_lt order laws j k l)
  lesser_first j k b a (e ∷ m) l =
      ordering_cases (λ o. order j e.0 ≡ o → insert order k a (by o ((j, b) ∷ e ∷ m) ((j, b) ∷ m) (e ∷ insert order j b m)) ≡ insert order j b (insert order k a (e ∷ m)))
      (order j e.0)
      (λ h c. rw (turn_lt order laws j k l, insert) (ordering_cases
      (λ o. order k e.0 ≡ o → (j, b) ∷ by o ((k, a) ∷ e ∷ m) ((k, a) ∷ m) (e ∷ insert order k a m) ≡ insert order j b (by o ((k, a) ∷ e ∷ m) ((k, a) ∷ m) (e ∷ insert order k a m)))
      (order k e.0) (λ i d. rw l) (λ i d. rw l) (λ i d. rw h) refl))
      (λ h c. let g : order k e.0 ≡ Ordering.gt = ap (order k) (sym (laws.same j e.0 h)) ∙ turn_lt order laws j k l in rw (turn_lt order laws j k l, g, by, h))
      (λ h c. ordering_cases
      (λ o. order k e.0 ≡ o → by o ((k, a) ∷ e ∷ insert order j b m) ((k, a) ∷ insert order j b m) (e ∷ insert order k a (insert order j b m)) ≡ insert order j b (by o ((k, a) ∷ e ∷ m) ((k, a) ∷ m) (e ∷ insert order k a m)))
      (order k e.0)
      (λ i d. absurd (no_less (laws.trans e.0 j k (turn_gt order laws j e.0 h) l) (turn_lt order laws k e.0 i)))
      (λ i d. absurd (no_equal (laws.trans e.0 j k (turn_gt order laws j e.0 h) l) (laws.turn k e.0 ∙ ap turned i)))
      (λ i d. rw (h, by) (ap (λ (x : Map K A). e ∷ x) (lesser_first j k b a m l))) refl) refl

  -- under two keys, in either order
  pub insert_swap : (j k : K) (b a : A) (m : Map K A) → (order j k ≡ Ordering.eq → ⊥) → insert order k a (insert order j b m) ≡ insert order j b (insert order k a m)
  insert_swap j k b a m d =
      ordering_cases (λ o. order j k ≡ o → insert order k a (insert order j b m) ≡ insert order j b (insert order k a m)) (order j k)
      (λ h c. lesser_first j k b a m h) (λ h c. absurd (d h)) (λ h c. sym (lesser_first k j a b m (turn_gt order laws j k h))) refl
