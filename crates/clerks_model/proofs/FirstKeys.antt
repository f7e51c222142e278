-- The first entry with a folded address has the key of occurrence 0, and a list whose addresses are apart has no other keys. Assumes nothing.
use Rattle.std.specs.Prelude.{Option, Some, None}
use Rattle.format.proofs.Options.{None-ne-Some}
use Prim.Native.Nat.{ℕ}
use mathlib.Core.Path.{◌≡◌, refl, sym, ap, ap₂, ◌∙◌, subst}
use mathlib.Core.List.{List, [], ◌∷◌, ◌++◌}
use mathlib.Core.Bool.{Bool, true, false, not, ◌&&◌, true≢false}
use lib.ListN.{length}
use lib.Dec.{eqb, T}
use Rattle.model.specs.Event.{Text, Attendee}
use Rattle.model.specs.Maps.{when◌then◌else◌, same_text, map, filter, is_some}
use Rattle.model.specs.Merge.{Key, Keyed, same_key, key_of, keyed_after, keyed, find, key_order}
use Rattle.model.proofs.Tables.{same_self, same_true, and_left, and_right}
use Rattle.model.proofs.MergeKeys.{keys, keys_append, same_key_is, same_key_self}
use Rattle.clerks_model.specs.Units.{folded, entry}
use Rattle.clerks_model.specs.Forcing.{apart}

abbrev pub first_key : Text → Key
first_key address = record { address = address; occurrence = 0 }

-- ---- the first entry with an address has the key of occurrence 0

find_keeps : (out l : Keyed) (k : Key) (a : Attendee) → find out k ≡ Some a → find (out ++ l) k ≡ Some a
unfolding find when◌then◌else◌
find_keeps [] l k a e = absurd (None-ne-Some a e)
find_keeps (x ∷ out) l k a e = go (same_key x.0 k) (find_keeps out l k a) e
  where
    go : (c : Bool) → (find out k ≡ Some a → find (out ++ l) k ≡ Some a) → (when c then Some x.1 else find out k) ≡ Some a
        → (when c then Some x.1 else find (out ++ l) k) ≡ Some a
    go true ih e = e
    go false ih e = ih e

find_snoc : (out : Keyed) (e : Key × Attendee) (k : Key) → find out k ≡ None → find (out ++ e ∷ []) k ≡ (when same_key e.0 k then Some e.1 else None)
unfolding find when◌then◌else◌
find_snoc [] e k n = refl
find_snoc (x ∷ out) e k n = go (same_key x.0 k) (find_snoc out e k) n
  where
    go : (c : Bool) → (find out k ≡ None → find (out ++ e ∷ []) k ≡ (when same_key e.0 k then Some e.1 else None)) → (when c then Some x.1 else find out k) ≡ None
        → (when c then Some x.1 else find (out ++ e ∷ []) k) ≡ (when same_key e.0 k then Some e.1 else None)
    go true ih n = absurd (None-ne-Some x.1 (sym n))
    go false ih n = ih n

find_after_keeps : (out : Keyed) (l : List Attendee) (k : Key) (a : Attendee) → find out k ≡ Some a → find (keyed_after out l) k ≡ Some a
unfolding keyed_after
find_after_keeps out [] k a e = e
find_after_keeps out (x ∷ l) k a e = find_after_keeps (out ++ (key_of out x, x) ∷ []) l k a (find_keeps out _ k a e)

no_cons : {A B : Type 0} (x : A) (l : List A) → x ∷ l ≡ [] → B
no_cons x l e = absurd (true≢false (ap (λ l. elim l as (λ l. Bool) [ [] ↦ false | y ∷ m ↦ true ]) e))

key_named : (out : Keyed) (a : Attendee) → (key_of out a).address ≡ folded a
unfolding key_of folded
key_named out a = refl

other_key : (k : Key) (key : Text) → same_text k.address key ≡ false → same_key k (first_key key) ≡ false
unfolding same_key
other_key k key e = ap (λ (c : Bool). c && eqb k.occurrence 0) e

-- nothing there has the folded address
abbrev Without : Keyed → Text → Type 0
Without out key = filter (λ e. same_text e.0.address key) out ≡ []

without_snoc : (out : Keyed) (e : Key × Attendee) (key : Text) → Without out key → same_text e.0.address key ≡ false → Without (out ++ e ∷ []) key
unfolding filter when◌then◌else◌
without_snoc [] e key w f = rw f refl
without_snoc (x ∷ out) e key w f = go (same_text x.0.address key) (without_snoc out e key) w
  where
    go : (c : Bool) → (Without out key → same_text e.0.address key ≡ false → Without (out ++ e ∷ []) key)
        → (when c then x ∷ filter (λ e. same_text e.0.address key) out else filter (λ e. same_text e.0.address key) out) ≡ []
        → (when c then x ∷ filter (λ e. same_text e.0.address key) (out ++ e ∷ []) else filter (λ e. same_text e.0.address key) (out ++ e ∷ [])) ≡ []
    go true ih w = no_cons x _ w
    go false ih w = ih w f

-- the key of the first entry with its address
first_of_all : (out : Keyed) (a : Attendee) (key : Text) → Without out key → folded a ≡ key → key_of out a ≡ first_key key
unfolding key_of folded
first_of_all out a key w e =
    ap₂ (λ (x : Text) (n : ℕ). record { address = x; occurrence = n }) e
    (ap (λ (x : Text). length (filter (λ (e : Key × Attendee). same_text e.0.address x) out)) e ∙ ap (λ (l : Keyed). length l) w)

find_first : (out : Keyed) (l : List Attendee) (key : Text) → find out (first_key key) ≡ None → Without out key → find (keyed_after out l) (first_key key) ≡ entry key l
unfolding keyed_after entry when◌then◌else◌
find_first out [] key n w = n
find_first out (a ∷ l) key n w = go (same_text (folded a) key) refl (find_first (out ++ (key_of out a, a) ∷ []) l key)
  where
    go : (c : Bool) → same_text (folded a) key ≡ c
        → (find (out ++ (key_of out a, a) ∷ []) (first_key key) ≡ None → Without (out ++ (key_of out a, a) ∷ []) key
        → find (keyed_after (out ++ (key_of out a, a) ∷ []) l) (first_key key) ≡ entry key l)
        → find (keyed_after (out ++ (key_of out a, a) ∷ []) l) (first_key key) ≡ (when c then Some a else entry key l)
    go true e ih = find_after_keeps (out ++ (key_of out a, a) ∷ []) l (first_key key) a
        (find_snoc out (key_of out a, a) (first_key key) n
        ∙ ap (λ (c : Bool). when c then Some a else None)
        (ap (λ (k : Key). same_key k (first_key key)) (first_of_all out a key w (same_true (folded a) key e)) ∙ same_key_self (first_key key)))
    go false e ih = ih
        (find_snoc out (key_of out a, a) (first_key key) n ∙ ap (λ (c : Bool). when c then Some a else None) (other_key (key_of out a) key (ap (λ (x : Text). same_text x key) (key_named out a) ∙ e)))
        (without_snoc out (key_of out a, a) key w (ap (λ (x : Text). same_text x key) (key_named out a) ∙ e))

pub find_keyed : (l : List Attendee) (key : Text) → find (keyed l) (first_key key) ≡ entry key l
unfolding keyed find filter
find_keyed l key = find_first [] l key refl refl

-- ---- lists whose addresses are apart have keys of occurrence 0 only

pub data Firsts : List Key → Type 0 where
  firsts_end : Firsts []
  firsts_more : (k : Key) (ks : List Key) → k.occurrence ≡ 0 → Firsts ks → Firsts (k ∷ ks)

firsts_append : (a b : List Key) → Firsts a → Firsts b → Firsts (a ++ b)
firsts_append [] b firsts_end g = g
firsts_append (k ∷ a) b (firsts_more k' a' e f) g = firsts_more k (a ++ b) e (firsts_append a b f g)

firsts_filter : (p : Key → Bool) (ks : List Key) → Firsts ks → Firsts (filter p ks)
unfolding filter when◌then◌else◌
firsts_filter p [] firsts_end = firsts_end
firsts_filter p (k ∷ ks) (firsts_more k' ks' e f) = elim (p k) as (λ c. Firsts (when c then k ∷ filter p ks else filter p ks))
    [ true ↦ firsts_more k (filter p ks) e (firsts_filter p ks f) | false ↦ firsts_filter p ks f ]

-- none of the list's addresses stands among those already out
data Clear (out : Keyed) : List Attendee → Type 0 where
  clear_end : Clear out []
  clear_more : (a : Attendee) (l : List Attendee) → Without out (folded a) → Clear out l → Clear out (a ∷ l)

pub entry_none_head : (key : Text) (a : Attendee) (l : List Attendee) → entry key (a ∷ l) ≡ None → (same_text (folded a) key ≡ false) × (entry key l ≡ None)
unfolding entry when◌then◌else◌
entry_none_head key a l e = go (same_text (folded a) key) refl e
  where
    go : (c : Bool) → same_text (folded a) key ≡ c → (when c then Some a else entry key l) ≡ None → (same_text (folded a) key ≡ false) × (entry key l ≡ None)
    go true f e = absurd (None-ne-Some a (sym e))
    go false f e = (f, e)

pub turned : (a b : Text) → same_text a b ≡ false → same_text b a ≡ false
turned a b e = go (same_text b a) refl
  where
    go : (c : Bool) → same_text b a ≡ c → c ≡ false
    go false f = refl
    go true f = absurd (true≢false (sym (same_self a) ∙ ap (same_text a) (sym (same_true b a f)) ∙ e))

clear_snoc : (out : Keyed) (a : Attendee) (l : List Attendee) → Clear out l → entry (folded a) l ≡ None → Clear (out ++ (key_of out a, a) ∷ []) l
clear_snoc out a [] clear_end e = clear_end
clear_snoc out a (x ∷ l) (clear_more x' l' w c) e =
    let n = entry_none_head (folded a) x l e in
    clear_more x l (without_snoc out (key_of out a, a) (folded x) w (ap (λ (y : Text). same_text y (folded x)) (key_named out a) ∙ turned (folded x) (folded a) n.0))
    (clear_snoc out a l c n.1)

pub is_none : (a : Option Attendee) → T (not (is_some a)) → a ≡ None
unfolding is_some
is_none None t = refl
is_none (Some x) t = absurd t

firsts_after : (out : Keyed) (l : List Attendee) → Firsts (keys out) → Clear out l → T (apart l) → Firsts (keys (keyed_after out l))
unfolding keyed_after apart map
firsts_after out [] f c t = f
firsts_after out (a ∷ l) f (clear_more a' l' w c) t =
    firsts_after (out ++ (key_of out a, a) ∷ []) l
    (rw (keys_append out ((key_of out a, a) ∷ [])) (firsts_append (keys out) (key_of out a ∷ []) f (firsts_more (key_of out a) [] (ap (λ (k : Key). k.occurrence) (first_of_all out a (folded a) w refl)) firsts_end)))
    (clear_snoc out a l c (is_none (entry (folded a) l) (and_left (not (is_some (entry (folded a) l))) (apart l) t)))
    (and_right (not (is_some (entry (folded a) l))) (apart l) t)

all_clear : (l : List Attendee) → Clear [] l
unfolding filter
all_clear [] = clear_end
all_clear (a ∷ l) = clear_more a l refl (all_clear l)

firsts_keyed : (l : List Attendee) → T (apart l) → Firsts (keys (keyed l))
unfolding keyed map
firsts_keyed l t = firsts_after [] l firsts_end (all_clear l) t

pub firsts_order : (o t : List Attendee) → T (apart o) → T (apart t) → Firsts (key_order (keyed o) (keyed t))
unfolding key_order
firsts_order o t p q = firsts_append (keys (keyed t)) _ (firsts_keyed t q) (firsts_filter _ (keys (keyed o)) (firsts_keyed o p))

-- ---- an entry is found by its own folded address

pub data Called (key : Text) : Option Attendee → Type 0 where
  nobody : Called key None
  someone : (a : Attendee) → folded a ≡ key → Called key (Some a)

called_snoc : (out : Keyed) (a : Attendee) (k : Key) → Called k.address (find out k) → Called k.address (find (out ++ (key_of out a, a) ∷ []) k)
unfolding when◌then◌else◌
called_snoc out a k c = go (find out k) refl c
  where
    here : (b : Bool) → same_key (key_of out a) k ≡ b → Called k.address (when b then Some a else None)
    here true e = someone a (sym (key_named out a) ∙ ap (λ (k : Key). k.address) (same_key_is (key_of out a) k e))
    here false e = nobody

    go : (f : Option Attendee) → find out k ≡ f → Called k.address f → Called k.address (find (out ++ (key_of out a, a) ∷ []) k)
    go None e nobody = subst (Called k.address) (sym (find_snoc out (key_of out a, a) k e)) (here (same_key (key_of out a) k) refl)
    go (Some x) e c = subst (Called k.address) (sym (find_keeps out _ k x e)) c

called_after : (out : Keyed) (l : List Attendee) → ((k : Key) → Called k.address (find out k)) → (k : Key) → Called k.address (find (keyed_after out l) k)
unfolding keyed_after
called_after out [] c k = c k
called_after out (a ∷ l) c k = called_after (out ++ (key_of out a, a) ∷ []) l (λ j. called_snoc out a j (c j)) k

pub find_called : (l : List Attendee) (k : Key) → Called k.address (find (keyed l) k)
unfolding keyed find
find_called l k = called_after [] l (λ j. nobody) k
