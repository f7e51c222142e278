-- The entry with a folded address in a merged list is the merge of the entries with it, and no folded address is there twice. Assumes nothing.
use Rattle.std.specs.Prelude.{Option, Some, None}
use Rattle.format.proofs.Options.{None-ne-Some}
use Prim.Native.Nat.{ℕ, ◌+◌}
use native.Mathlib.Omega.{arith}
use mathlib.Core.Path.{◌≡◌, refl, sym, ap, ap₂, ◌∙◌}
use mathlib.Core.List.{List, [], ◌∷◌, ◌++◌}
use mathlib.Core.Bool.{Bool, true, false, not, ◌||◌, true≢false}
use lib.Dec.{T}
use Rattle.format.specs.Format.{option}
use Rattle.model.specs.Event.{Text, Attendee, NormalizedEvent, ProviderEvent}
use Rattle.model.specs.Parts.{Role, Field, FieldValue}
use Rattle.model.specs.Maps.{when◌then◌else◌, same_text, any, map, filter, is_some}
use Rattle.model.specs.Formats.{attendee_f}
use Rattle.model.specs.Merge.{unreported, rest, with_participation, whole_entry, own_removed, own_reply, own_standing, own_entry, Key, Keyed, same_key, keyed, find, is_own, is_owner, entry_at, entries_at, extend, key_order, merge_attendees, merge}
use Rattle.model.proofs.Tables.{same_self, same_true, and_both}
use Rattle.model.proofs.MergeReports.{part_theirs}
use Rattle.model.proofs.MergeKeys.{one_if, hits, Distinct, keys, same_key_is, same_key_self, keyed_distinct, order_distinct}
use Rattle.clerks_model.specs.Units.{folded, entry}
use Rattle.clerks_model.specs.Forcing.{apart}
use Rattle.clerks_model.proofs.Parts.{Part, stays, moves, part_is}
use Rattle.clerks_model.proofs.FirstKeys.{first_key, find_keyed, Firsts, firsts_end, firsts_more, firsts_order, Called, nobody, someone, find_called}

-- ---- what stands for a key is called by its address

part_named : (key : Text) (b o t v : Option Attendee) → Part (option attendee_f) b o t v → Called key o → Called key t → Called key v
part_named key b o t v stays p q = q
part_named key b o t v (moves e) p q = p

whole_named : (key : Text) (owned : Bool) (b o t : Option Attendee) → Called key o → Called key t → Called key (whole_entry owned b o t).value
unfolding whole_entry
whole_named key owned b o t p q = part_named key b o t _ (part_is (option attendee_f) FieldValue.Attendee Field.Attendees _ owned b o t) p q

own_named : (key : Text) (b o t : Option Attendee) → Called key o → Called key t → Called key (own_entry b o t).value
unfolding own_entry own_removed own_standing with_participation rest folded
own_named key None o t p q = whole_named key false None o t p q
own_named key (Some b) None t p q = whole_named key false (Some b) None t p q
own_named key (Some b) (Some o) None p q = nobody
own_named key (Some b) (Some o) (Some t) p (someone t' e) =
    rw (part_theirs attendee_f (λ r. FieldValue.Attendee (Some r)) Field.Attendees (Some t'.address) (rest b) (rest o) (rest t')).value
    (someone (with_participation (own_reply b o t').value (rest t')) e)

module _ (role : Role) (b o t : Keyed) (co : (k : Key) → Called k.address (find o k)) (ct : (k : Key) → Called k.address (find t k)) where
  at_named : (k : Key) → Called k.address (entry_at role b o t k).value
  unfolding entry_at when◌then◌else◌
  at_named k = elim (is_own role k) as
      (λ c. Called k.address (when c then own_entry (find b k) (find o k) (find t k) else whole_entry (is_owner role) (find b k) (find o k) (find t k)).value) [
        | true ↦ own_named k.address (find b k) (find o k) (find t k) (co k) (ct k)
        | false ↦ whole_named k.address (is_owner role) (find b k) (find o k) (find t k) (co k) (ct k)
      ]

  entry_extend : (key : Text) (v : Option Attendee) (l : List Attendee) (k : Key) → Called k.address v → same_text k.address key ≡ false
      → entry key (extend role b o t v l) ≡ entry key l
  unfolding extend entry when◌then◌else◌
  entry_extend key None l k nobody e = refl
  entry_extend key (Some v) l k (someone v' f) e = rw (f, e) refl

  entry_here : (key : Text) (v : Option Attendee) (l : List Attendee) → Called key v → (v ≡ None → entry key l ≡ None) → entry key (extend role b o t v l) ≡ v
  unfolding extend entry when◌then◌else◌
  entry_here key None l nobody n = n refl
  entry_here key (Some v) l (someone v' f) n = rw (f, same_self key) refl

  key_is : (k : Key) (key : Text) → k.occurrence ≡ 0 → same_text k.address key ≡ true → k ≡ first_key key
  key_is k key e f = ap₂ (λ (x : Text) (n : ℕ). record { address = x; occurrence = n }) (same_true k.address key f) e

  entry_in : (key : Text) (ks : List Key) → Firsts ks
      → entry key (entries_at role b o t ks).value ≡ (when any (λ k. same_text k.address key) ks then (entry_at role b o t (first_key key)).value else None)
  unfolding entries_at any when◌then◌else◌ unreported entry
  entry_in key [] firsts_end = refl
  entry_in key (k ∷ ks) (firsts_more k' ks' e f) = go (same_text k.address key) refl (entry_in key ks f)
    where
      own : Option Attendee
      own = (entry_at role b o t (first_key key)).value

      none_then : (c : Bool) → own ≡ None → (when c then own else None) ≡ None
      none_then true e = e
      none_then false e = refl

      go : (c : Bool) → same_text k.address key ≡ c → entry key (entries_at role b o t ks).value ≡ (when any (λ k. same_text k.address key) ks then own else None)
          → entry key (extend role b o t (entry_at role b o t k).value (entries_at role b o t ks).value) ≡ (when c || any (λ k. same_text k.address key) ks then own else None)
      go false g ih = entry_extend key (entry_at role b o t k).value _ k (at_named k) g ∙ ih
      go true g ih =
          let same-value : (entry_at role b o t k).value ≡ own = ap (λ (k : Key). (entry_at role b o t k).value) (key_is k key e g) in
          ap (λ (v : Option Attendee). entry key (extend role b o t v (entries_at role b o t ks).value)) same-value
          ∙ entry_here key own _ (at_named (first_key key)) (λ h. ih ∙ none_then (any (λ k. same_text k.address key) ks) h)

-- ---- every key that is found stands in the order

abbrev has_address : Text → Key → Bool
has_address key k = same_text k.address key

or_true_left : (a b : Bool) → a ≡ true → (a || b) ≡ true
or_true_left true b e = refl
or_true_left false b e = absurd (true≢false (sym e))

or_true_right : (a b : Bool) → b ≡ true → (a || b) ≡ true
or_true_right true b e = refl
or_true_right false b e = e

any_left : (p : Key → Bool) (a b : List Key) → any p a ≡ true → any p (a ++ b) ≡ true
unfolding any
any_left p [] b e = absurd (true≢false (sym e))
any_left p (k ∷ a) b e = go (p k) e (any_left p a b)
  where
    go : (c : Bool) → (c || any p a) ≡ true → (any p a ≡ true → any p (a ++ b) ≡ true) → (c || any p (a ++ b)) ≡ true
    go true e ih = refl
    go false e ih = ih e

any_right : (p : Key → Bool) (a b : List Key) → any p b ≡ true → any p (a ++ b) ≡ true
unfolding any
any_right p [] b e = e
any_right p (k ∷ a) b e = or_true_right (p k) (any p (a ++ b)) (any_right p a b e)

found_here : (t : Keyed) (key : Text) (a : Attendee) → find t (first_key key) ≡ Some a → any (has_address key) (keys t) ≡ true
unfolding find when◌then◌else◌ any map
found_here [] key a e = absurd (None-ne-Some a e)
found_here (x ∷ t) key a e = go (same_key x.0 (first_key key)) refl (found_here t key a) e
  where
    go : (c : Bool) → same_key x.0 (first_key key) ≡ c → (find t (first_key key) ≡ Some a → any (has_address key) (keys t) ≡ true)
        → (when c then Some x.1 else find t (first_key key)) ≡ Some a → (has_address key x.0 || any (has_address key) (keys t)) ≡ true
    go true h ih e = or_true_left _ _ (ap (λ (k : Key). same_text k.address key) (same_key_is x.0 (first_key key) h) ∙ same_self key)
    go false h ih e = or_true_right (has_address key x.0) _ (ih e)

found_new : (o t : Keyed) (key : Text) (a : Attendee) → find o (first_key key) ≡ Some a → find t (first_key key) ≡ None
    → any (has_address key) (filter (λ k. not (is_some (find t k))) (keys o)) ≡ true
unfolding find when◌then◌else◌ any map filter is_some
found_new [] t key a e n = absurd (None-ne-Some a e)
found_new (x ∷ o) t key a e n = go (same_key x.0 (first_key key)) refl (found_new o t key a) e
  where
    more : Key → List Key → Bool → List Key
    more k ks c = when c then k ∷ ks else ks

    any_more : (k : Key) (ks : List Key) (c : Bool) → any (has_address key) ks ≡ true → any (has_address key) (more k ks c) ≡ true
    any_more k ks true e = or_true_right (has_address key k) _ e
    any_more k ks false e = e

    go : (c : Bool) → same_key x.0 (first_key key) ≡ c
        → (find o (first_key key) ≡ Some a → find t (first_key key) ≡ None → any (has_address key) (filter (λ k. not (is_some (find t k))) (keys o)) ≡ true)
        → (when c then Some x.1 else find o (first_key key)) ≡ Some a
        → any (has_address key) (more x.0 (filter (λ k. not (is_some (find t k))) (keys o)) (not (is_some (find t x.0)))) ≡ true
    go true h ih e =
        let is : x.0 ≡ first_key key = same_key_is x.0 (first_key key) h in
        ap (λ (v : Option Attendee). any (has_address key) (more x.0 (filter (λ k. not (is_some (find t k))) (keys o)) (not (is_some v)))) (ap (λ (k : Key). find t k) is ∙ n)
        ∙ or_true_left _ _ (ap (λ (k : Key). same_text k.address key) is ∙ same_self key)
    go false h ih e = any_more x.0 _ (not (is_some (find t x.0))) (ih e n)

both_none : (role : Role) (b o t : Keyed) (k : Key) → find o k ≡ None → find t k ≡ None → (entry_at role b o t k).value ≡ None
unfolding entry_at when◌then◌else◌ own_entry whole_entry
both_none role b o t k e f = rw (e, f) (go (is_own role k) (find b k))
  where
    nothing_else : (b v : Option Attendee) → Part (option attendee_f) b None None v → v ≡ None
    nothing_else b v stays = refl
    nothing_else b v (moves e) = refl

    whole : (owned : Bool) (b : Option Attendee) → (whole_entry owned b None None).value ≡ None
    whole owned b = nothing_else b _ (part_is (option attendee_f) FieldValue.Attendee Field.Attendees _ owned b None None)

    go : (c : Bool) (b : Option Attendee) → (when c then own_entry b None None else whole_entry (is_owner role) b None None).value ≡ None
    go true None = whole false None
    go true (Some b) = whole false (Some b)
    go false b = whole (is_owner role) b

-- one entry merged
unfoldable pub entry_merged : Role → Text → Option Attendee → Option Attendee → Option Attendee → Option Attendee
entry_merged role key b o t = (when is_own role (first_key key) then own_entry b o t else whole_entry (is_owner role) b o t).value

pub at_first : (role : Role) (b o t : List Attendee) (key : Text)
    → (entry_at role (keyed b) (keyed o) (keyed t) (first_key key)).value ≡ entry_merged role key (entry key b) (entry key o) (entry key t)
unfolding entry_at entry_merged
at_first role b o t key = rw (find_keyed b key, find_keyed o key, find_keyed t key) refl

merged_entry : (role : Role) (b o t : List Attendee) (key : Text) → T (apart o) → T (apart t)
    → entry key (merge_attendees role b o t).value ≡ entry_merged role key (entry key b) (entry key o) (entry key t)
unfolding merge_attendees key_order when◌then◌else◌
merged_entry role b o t key p q =
    entry_in role (keyed b) (keyed o) (keyed t) (find_called o) (find_called t) key (key_order (keyed o) (keyed t)) (firsts_order o t p q)
    ∙ go (find (keyed t) (first_key key)) refl (find (keyed o) (first_key key)) refl ∙ at_first role b o t key
  where
    at : Option Attendee
    at = (entry_at role (keyed b) (keyed o) (keyed t) (first_key key)).value

    ks : List Key
    ks = key_order (keyed o) (keyed t)

    go : (x : Option Attendee) → find (keyed t) (first_key key) ≡ x → (y : Option Attendee) → find (keyed o) (first_key key) ≡ y → (when any (has_address key) ks then at else None) ≡ at
    go (Some a) e y f = ap (λ (c : Bool). when c then at else None) (any_left (has_address key) (keys (keyed t)) _ (found_here (keyed t) key a e))
    go None e (Some a) f = ap (λ (c : Bool). when c then at else None) (any_right (has_address key) (keys (keyed t)) _ (found_new (keyed o) (keyed t) key a f e))
    go None e None f = elim (any (has_address key) ks) as (λ c. (when c then at else None) ≡ at) [ true ↦ refl | false ↦ sym (both_none role (keyed b) (keyed o) (keyed t) (first_key key) f e) ]

-- ---- no folded address twice in the merged list

no_sum : (n : ℕ) → 1 + n ≡ 0 → ⊥
no_sum n e = omega (arith, e)

absent_key : (k : Key) (ks : List Key) → k.occurrence ≡ 0 → Firsts ks → hits k ks ≡ 0 → any (has_address k.address) ks ≡ false
unfolding any
absent_key k [] e firsts_end h = refl
absent_key k (j ∷ ks) e (firsts_more j' ks' f g) h = go (has_address k.address j) refl (absent_key k ks e g)
  where
    go : (c : Bool) → has_address k.address j ≡ c → (hits k ks ≡ 0 → any (has_address k.address) ks ≡ false) → (c || any (has_address k.address) ks) ≡ false
    go false q ih = ih (omega (arith, h))
    go true q ih =
        let is : j ≡ k = ap₂ (λ (x : Text) (n : ℕ). record { address = x; occurrence = n }) (same_true j.address k.address q) (f ∙ sym e) in
        absurd (no_sum (hits k ks) (ap (λ (c : Bool). one_if c + hits k ks) (sym (ap (same_key k) is ∙ same_key_self k)) ∙ h))

module _ (role : Role) (b o t : Keyed) (co : (k : Key) → Called k.address (find o k)) (ct : (k : Key) → Called k.address (find t k)) where
  entries_apart : (ks : List Key) → Firsts ks → Distinct ks → T (apart (entries_at role b o t ks).value)
  unfolding entries_at apart unreported when◌then◌else◌ extend is_some
  entries_apart [] firsts_end d = tt
  entries_apart (k ∷ ks) (firsts_more k' ks' e f) d = go (entry_at role b o t k).value (at_named role b o t co ct k) (entries_apart ks f (λ j. omega (arith, d j)))
    where
      once : hits k ks ≡ 0
      once = omega (arith, d k, ap one_if (same_key_self k))

      alone : entry k.address (entries_at role b o t ks).value ≡ None
      alone = entry_in role b o t co ct k.address ks f ∙ ap (λ (c : Bool). when c then (entry_at role b o t (first_key k.address)).value else None) (absent_key k ks e f once)

      go : (v : Option Attendee) → Called k.address v → T (apart (entries_at role b o t ks).value) → T (apart (extend role b o t v (entries_at role b o t ks).value))
      go None nobody ih = ih
      go (Some v) (someone v' g) ih = and_both (not (is_some (entry (folded v') (entries_at role b o t ks).value))) _
          (rw (g, alone) tt) ih

merged_apart : (role : Role) (b o t : List Attendee) → T (apart o) → T (apart t) → T (apart (merge_attendees role b o t).value)
unfolding merge_attendees
merged_apart role b o t p q = entries_apart role (keyed b) (keyed o) (keyed t) (find_called o) (find_called t) (key_order (keyed o) (keyed t)) (firsts_order o t p q)
    (order_distinct (keyed o) (keyed t) (keyed_distinct o) (keyed_distinct t))

-- ---- the same of a merged event

pub merge_entry : (b o : NormalizedEvent) (t : ProviderEvent) (role : Role) (key : Text) → T (apart o.attendees) → T (apart t.fields.attendees)
    → entry key (merge b o t role).event.fields.attendees ≡ entry_merged role key (entry key b.attendees) (entry key o.attendees) (entry key t.fields.attendees)
unfolding merge
merge_entry b o t role key p q = merged_entry role b.attendees o.attendees t.fields.attendees key p q

pub merge_apart : (b o : NormalizedEvent) (t : ProviderEvent) (role : Role) → T (apart o.attendees) → T (apart t.fields.attendees)
    → T (apart (merge b o t role).event.fields.attendees)
unfolding merge
merge_apart b o t role p q = merged_apart role b.attendees o.attendees t.fields.attendees p q
