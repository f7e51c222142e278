-- A frame's entries by list, where no list has an address twice: the event's, then those that are new in each party's. And how many bytes name the
-- parties of its units. Assumes nothing.
use Rattle.std.specs.Prelude.{Some, None}
use Prim.Native.Nat.{◌≤◌}
use native.Mathlib.Omega.{arith}
use mathlib.Core.Path.{◌≡◌, refl, sym, ap, ◌∙◌}
use mathlib.Core.List.{List, [], ◌∷◌, ◌++◌, append_assoc, append-nil}
use mathlib.Core.Bool.{Bool, true, false, not, ◌&&◌, ◌||◌}
use lib.ListN.{length}
use lib.Dec.{T}
use Rattle.model.specs.Event.{Text, Attendee}
use Rattle.model.specs.Maps.{when◌then◌else◌, same_text, any, filter, map, is_some}
use Rattle.model.proofs.Tables.{same_true, same_self, and_left, and_right}
use Rattle.model.proofs.Fitting.{filter_same, length-map}
use Rattle.clerks_model.specs.Frame.{Clerks, clerks_f}
use Rattle.clerks_model.specs.Units.{Unit, folded, entry, add_new, entry_keys, entry_units, units, max_units}
use Rattle.clerks_model.specs.Forcing.{apart}
use Rattle.clerks_model.specs.Naming.{named}
use Rattle.clerks_model.specs.Answer.{Placed, number_of, names, all_apart}
use Rattle.clerks_model.proofs.FirstKeys.{turned, entry_none_head, is_none}
use Rattle.clerks_model.proofs.Frames.{units_bounded}

-- the entries of l that neither list has
abbrev pub new_in : (before also l : List Attendee) → List Attendee
new_in before also l = filter (λ a. not (is_some (entry (folded a) before) || is_some (entry (folded a) also))) l

-- ---- one list added

or-false : (c : Bool) → (c || false) ≡ c
or-false true = refl
or-false false = refl

any_append : {A : Type 0} (p : A → Bool) (a b : List A) → any p (a ++ b) ≡ (any p a || any p b)
unfolding any
any_append p [] b = refl
any_append p (x ∷ a) b = elim (p x) as (λ c. (c || any p (a ++ b)) ≡ ((c || any p a) || any p b)) [ true ↦ refl | false ↦ any_append p a b ]

-- entries with other addresses than k's are new whether or not k is among the names
other_new : (keys : List Text) (k : Text) (l : List Attendee) → entry k l ≡ None
    → filter (λ a. not (any (same_text (folded a)) (keys ++ k ∷ []))) l ≡ filter (λ a. not (any (same_text (folded a)) keys)) l
unfolding filter any
other_new keys k [] e = refl
other_new keys k (a ∷ l) e =
    ap (λ (c : Bool). when not c then a ∷ filter (λ a. not (any (same_text (folded a)) (keys ++ k ∷ []))) l else filter (λ a. not (any (same_text (folded a)) (keys ++ k ∷ []))) l)
    (any_append (same_text (folded a)) keys (k ∷ []) ∙ ap (λ (c : Bool). any (same_text (folded a)) keys || (c || false)) (entry_none_head k a l e).0 ∙ or-false (any (same_text (folded a)) keys))
    ∙ ap (λ (m : List Attendee). when not (any (same_text (folded a)) keys) then a ∷ m else m) (other_new keys k l (entry_none_head k a l e).1)

add_apart : (keys : List Text) (l : List Attendee) → T (apart l) → add_new keys l ≡ keys ++ map folded (filter (λ a. not (any (same_text (folded a)) keys)) l)
unfolding add_new apart filter map when◌then◌else◌
add_apart keys [] t = sym (append-nil keys)
add_apart keys (a ∷ l) t = go (any (same_text (folded a)) keys) (λ ks. add_apart ks l)
  where
    new : List Attendee
    new = filter (λ a. not (any (same_text (folded a)) keys)) l

    behind : T (apart l)
    behind = and_right (not (is_some (entry (folded a) l))) (apart l) t

    alone : entry (folded a) l ≡ None
    alone = is_none (entry (folded a) l) (and_left (not (is_some (entry (folded a) l))) (apart l) t)

    go : (c : Bool) → ((ks : List Text) → T (apart l) → add_new ks l ≡ ks ++ map folded (filter (λ a. not (any (same_text (folded a)) ks)) l))
        → add_new (when c then keys else keys ++ folded a ∷ []) l ≡ keys ++ map folded (when not c then a ∷ new else new)
    go true ih = ih keys behind
    go false ih = ih (keys ++ folded a ∷ []) behind
        ∙ ap (λ (m : List Attendee). (keys ++ folded a ∷ []) ++ map folded m) (other_new keys (folded a) l alone)
        ∙ append_assoc keys (folded a ∷ []) (map folded new)

-- ---- which addresses are among the names

abbrev Has : List Text → (Text → Bool) → Type 0
Has keys has = (k : Text) → any (same_text k) keys ≡ has k

same_turned : (a b : Text) → same_text a b ≡ same_text b a
same_turned a b = go (same_text a b) refl
  where
    go : (c : Bool) → same_text a b ≡ c → c ≡ same_text b a
    go true e = sym (ap (same_text b) (same_true a b e) ∙ same_self b)
    go false e = sym (turned a b e)

-- an address that is not among the names stands in the list, or not among its new entries either
among_new : (has : Text → Bool) (k : Text) → has k ≡ false → (l : List Attendee)
    → any (same_text k) (map folded (filter (λ a. not (has (folded a))) l)) ≡ is_some (entry k l)
unfolding any map filter entry when◌then◌else◌ is_some
among_new has k n [] = refl
among_new has k n (a ∷ l) = go (same_text (folded a) k) refl (among_new has k n l)
  where
    new : List Attendee
    new = filter (λ a. not (has (folded a))) l

    old : (c : Bool) → same_text k (folded a) ≡ false → any (same_text k) (map folded (when not c then a ∷ new else new)) ≡ any (same_text k) (map folded new)
    old true e = refl
    old false e = ap (λ (d : Bool). d || any (same_text k) (map folded new)) e

    go : (c : Bool) → same_text (folded a) k ≡ c → any (same_text k) (map folded new) ≡ is_some (entry k l)
        → any (same_text k) (map folded (when not (has (folded a)) then a ∷ new else new)) ≡ is_some (when c then Some a else entry k l)
    go true e ih = ap (λ (c : Bool). any (same_text k) (map folded (when not c then a ∷ new else new))) (ap has (same_true (folded a) k e) ∙ n)
        ∙ ap (λ (c : Bool). c || any (same_text k) (map folded new)) (same_turned k (folded a) ∙ e)
    go false e ih = old (has (folded a)) (same_turned k (folded a) ∙ e) ∙ ih

module _ (keys : List Text) (has : Text → Bool) (are : Has keys has) (l : List Attendee) where
  added_are : T (apart l) → add_new keys l ≡ keys ++ map folded (filter (λ a. not (has (folded a))) l)
  added_are t = add_apart keys l t
      ∙ ap (λ (m : List Attendee). keys ++ map folded m) (filter_same _ _ (λ a. ap not (are (folded a))) l)

  has_added : Has (keys ++ map folded (filter (λ a. not (has (folded a))) l)) (λ k. has k || is_some (entry k l))
  has_added k = any_append (same_text k) keys _ ∙ ap (λ (c : Bool). c || any (same_text k) (map folded (filter (λ a. not (has (folded a))) l))) (are k) ∙ go (has k) refl
    where
      go : (c : Bool) → has k ≡ c → (c || any (same_text k) (map folded (filter (λ a. not (has (folded a))) l))) ≡ (c || is_some (entry k l))
      go true e = refl
      go false e = among_new has k e l

-- ---- the three lists

pub keys_apart : (c : Clerks) → T (all_apart c)
    → entry_keys c ≡ map folded (new_in [] [] c.event.fields.attendees)
    ++ (map folded (new_in c.event.fields.attendees [] c.one.wanted.attendees)
    ++ map folded (new_in c.event.fields.attendees c.one.wanted.attendees c.two.wanted.attendees))
unfolding entry_keys all_apart entry is_some any
keys_apart c t =
    ap (λ (k : List Text). add_new (add_new k o) w) (added_are [] (λ k. false) (λ k. refl) e (and_left (apart e) (apart o) (and_left (apart e && apart o) (apart w) t)))
    ∙ ap (λ (k : List Text). add_new k w) (added_are first in_first has_first o (and_right (apart e) (apart o) (and_left (apart e && apart o) (apart w) t)))
    ∙ added_are (first ++ second) in_both has_both w (and_right (apart e && apart o) (apart w) t)
    ∙ append_assoc first second (map folded (new_in e o w))
  where
    e : List Attendee
    e = c.event.fields.attendees

    o : List Attendee
    o = c.one.wanted.attendees

    w : List Attendee
    w = c.two.wanted.attendees

    first : List Text
    first = map folded (new_in [] [] e)

    second : List Text
    second = map folded (new_in e [] o)

    in_first : Text → Bool
    in_first k = is_some (entry k e) || is_some (entry k [])

    in_both : Text → Bool
    in_both k = is_some (entry k e) || is_some (entry k o)

    has_first : Has first in_first
    has_first k = has_added [] (λ k. false) (λ k. refl) e k ∙ sym (or-false (is_some (entry k e)))

    has_both : Has (first ++ second) in_both
    has_both k = has_added first in_first has_first o k ∙ ap (λ (c : Bool). c || is_some (entry k o)) (or-false (is_some (entry k e)))

-- ---- their units

pub entry_units_append : (a b : List Text) → entry_units (a ++ b) ≡ entry_units a ++ entry_units b
unfolding entry_units
entry_units_append [] b = refl
entry_units_append (k ∷ a) b = ap (λ (l : List Unit). Unit.Rest k ∷ Unit.Reply k ∷ l) (entry_units_append a b)

-- a byte for each unit
pub names_bounded : (c : Clerks) (p q : Placed) → clerks_f.Ok c → length (names c p q) ≤ max_units
unfolding names
names_bounded c p q h = omega (arith, length-map (λ u. number_of p q (named p.party.role q.party.role c.event.fields u)) (units c), units_bounded c h)
