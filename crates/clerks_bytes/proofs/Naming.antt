-- The bytes that name a party for each unit are the model's names. Assumes nothing.
use Rattle.std.specs.Prelude.{None}
use Prim.Native.Nat.{ℕ, zero, suc, ◌≤◌}
use native.Mathlib.Omega.{arith}
use mathlib.Core.Path.{◌≡◌, refl, sym, ap, ap₂, ◌∙◌}
use mathlib.Core.List.{List, [], ◌∷◌, ◌++◌, append_assoc}
use mathlib.Core.Bool.{Bool, true, false, cond, not, ◌&&◌, ◌||◌, and-true, or-false}
use lib.Dec.{T}
use lib.ListN.{length, take, get_or, replicate}
use lib.Seq.{take-suc, take_all}
use Rattle.format.specs.Format.{list}
use Rattle.model.specs.Event.{Text, AttendeeRole, Participation, ParticipantKind, Attendee, NormalizedEvent}
use Rattle.model.specs.Parts.{Role}
use Rattle.model.specs.Limits.{max_attendees}
use Rattle.model.specs.Maps.{when◌then◌else◌, map, filter, is_some}
use Rattle.model.specs.Formats.{attendee_f, role_f}
use Rattle.model.specs.Merge.{to_ascii_lowercase, is_own, is_owner}
use Rattle.model.proofs.Fitting.{map-append}
use Rattle.frame.specs.Read.{start}
use Rattle.attendees.specs.Entries.{entry_count}
use Rattle.merge.specs.Given.{Begins}
use Rattle.merge.specs.Parts.{owner_of}
use Rattle.merge.proofs.Stood.{Stood}
use Rattle.merge.proofs.EntryParts.{count_of}
use Rattle.merge.proofs.EventParts.{writes}
use Rattle.merge.proofs.Walk.{address_at}
use Rattle.clerks_model.specs.Frame.{Clerks}
use Rattle.clerks_model.specs.Units.{Unit, by_kind, folded, entry, entry_keys, entry_units, fields_before, fields_behind, units}
use Rattle.clerks_model.specs.Naming.{own_there, is_reminders, attendee_may, may_change, saved_by, Named, named}
use Rattle.clerks_model.specs.Answer.{Placed, number_of, names, all_apart}
use Rattle.clerks_model.proofs.Keys.{new_in, keys_apart, entry_units_append}
use Rattle.clerks_bytes.specs.Entries.{stands_in}
use Rattle.clerks_bytes.specs.Names.{field_name, own_there_in, entry_names, new_name, new_names, unit_names}
use Rattle.clerks_bytes.specs.declared.names.Order.{Order}
use Rattle.clerks_bytes.proofs.EntryLaws.{stands_is, stands_none}

-- the bytes say which addresses stand in a list
abbrev Says : List ℕ → List Attendee → Type 0
Says s l = (w : Text) → stands_in s w ≡ is_some (entry (to_ascii_lowercase w) l)

says_none : Says [] []
unfolding entry is_some
says_none w = stands_none w

-- ---- who may change what

own_is : {s : List ℕ} (r : Role) → Begins role_f s r → (e : NormalizedEvent) (lb : List ℕ) → Says lb e.attendees → (w : Text)
    → own_there_in s lb w ≡ own_there r e (to_ascii_lowercase w)
unfolding own_there_in is_own own_there
own_is Role.Owner B e lb S w = ap₂ (λ (x y : Bool). x && y) ((writes Role.Owner B).own_is w 0) (S w)
own_is (Role.Attendee a) B e lb S w = ap₂ (λ (x y : Bool). x && y) ((writes (Role.Attendee a) B).own_is w 0) (S w)

module _ (x y : Placed) (e : NormalizedEvent) where
  abbrev name : Unit → ℕ
  name u = number_of x y (named x.party.role y.party.role e u)

  abbrev picked : (first second : Bool) → ℕ
  picked first second = cond first x.number (cond second y.number 0)

  chosen : (a b : Bool) → number_of x y (when a then Named.First else (when b then Named.Second else Named.Nobody)) ≡ picked a b
  unfolding number_of when◌then◌else◌
  chosen true b = refl
  chosen false true = refl
  chosen false false = refl

  field_is : name Unit.Title ≡ picked (is_owner x.party.role) (is_owner y.party.role)
  unfolding named may_change attendee_may saved_by by_kind is_reminders
  field_is =
      chosen (is_owner x.party.role || false) ((is_owner y.party.role || false) && true)
      ∙ ap₂ (λ (a b : Bool). picked a b) (or-false (is_owner x.party.role)) (and-true (is_owner y.party.role || false) ∙ or-false (is_owner y.party.role))

  rest_is : (key : Text) → name (Unit.Rest key) ≡ picked (is_owner x.party.role) (is_owner y.party.role && not (own_there x.party.role e key))
  unfolding named may_change attendee_may saved_by by_kind is_reminders
  rest_is key =
      chosen (is_owner x.party.role || false) ((is_owner y.party.role || false) && not (own_there x.party.role e key))
      ∙ ap₂ (λ (a b : Bool). picked a (b && not (own_there x.party.role e key))) (or-false (is_owner x.party.role)) (or-false (is_owner y.party.role))

  reply_is : (key : Text) → name (Unit.Reply key)
      ≡ picked (is_owner x.party.role || own_there x.party.role e key) (is_owner y.party.role || own_there y.party.role e key)
  unfolding named may_change attendee_may saved_by by_kind is_reminders
  reply_is key =
      chosen (is_owner x.party.role || own_there x.party.role e key) ((is_owner y.party.role || own_there y.party.role e key) && true)
      ∙ ap (λ (b : Bool). picked (is_owner x.party.role || own_there x.party.role e key) b) (and-true (is_owner y.party.role || own_there y.party.role e key))

  reminders_is : name Unit.Reminders ≡ x.number
  unfolding named may_change attendee_may saved_by by_kind is_reminders
  reminders_is =
      ap (λ (a : Bool). number_of x y (when a then Named.First else (when (is_owner y.party.role || true) && true then Named.Second else Named.Nobody)))
      (always (is_owner x.party.role)) ∙ chosen true ((is_owner y.party.role || true) && true)
    where
      always : (a : Bool) → (a || true) ≡ true
      always true = refl
      always false = refl

  before_are : map name fields_before ≡ replicate 4 (name Unit.Title)
  unfolding map named may_change attendee_may saved_by by_kind is_reminders
  before_are = refl

  behind_are : map name fields_behind ≡ replicate 5 (name Unit.Title) ++ (name Unit.Reminders ∷ [])
  unfolding map named may_change attendee_may saved_by by_kind is_reminders
  behind_are = refl

-- ---- the entries

abbrev no_one : Attendee
no_one = record { address = []; name = None; role = AttendeeRole.Required; participation = Participation.NeedsAction; kind = ParticipantKind.Individual }

filter_append : {A : Type 0} (p : A → Bool) (a b : List A) → filter p (a ++ b) ≡ filter p a ++ filter p b
unfolding filter when◌then◌else◌
filter_append p [] b = refl
filter_append {A = A} p (x ∷ a) b = go (p x) (filter_append p a b)
  where
    go : (c : Bool) → filter p (a ++ b) ≡ filter p a ++ filter p b → (when c then x ∷ filter p (a ++ b) else filter p (a ++ b)) ≡ (when c then x ∷ filter p a else filter p a) ++ filter p b
    go true ih = ap (λ (l : List A). x ∷ l) ih
    go false ih = ih

module _ (x y : Placed) (e : NormalizedEvent) (p q lb : List ℕ) (P : Begins role_f p x.party.role) (Q : Begins role_f q y.party.role) (L : Says lb e.attendees) where
  abbrev order : Order
  order = record { first = x.number; second = y.number; first_owner = owner_of p; second_owner = owner_of q }

  abbrev keyed_names : List Text → List ℕ
  keyed_names keys = map (name x y e) (entry_units keys)

  keyed_append : (a b : List Text) → keyed_names (a ++ b) ≡ keyed_names a ++ keyed_names b
  keyed_append a b = ap (map (name x y e)) (entry_units_append a b) ∙ map-append (name x y e) (entry_units a) (entry_units b)

  field_name_lem : field_name order ≡ name x y e Unit.Title
  field_name_lem = ap₂ (λ (a b : Bool). picked x y e a b) (writes x.party.role P).owner_is (writes y.party.role Q).owner_is ∙ sym (field_is x y e)

  entry_are : (w : Text) → entry_names order p q lb w ≡ keyed_names (to_ascii_lowercase w ∷ [])
  unfolding entry_names map entry_units
  entry_are w =
      rw ((writes x.party.role P).owner_is, (writes y.party.role Q).owner_is, own_is x.party.role P e lb L w, own_is y.party.role Q e lb L w)
      (ap₂ (λ (a b : ℕ). a ∷ b ∷ []) (sym (rest_is x y e (to_ascii_lowercase w))) (sym (reply_is x y e (to_ascii_lowercase w))))

  module _ (before also : List ℕ) (b a : List Attendee) (B : Says before b) (A : Says also a) where
    new_name_lem : (c : Attendee) → new_name order p q lb before also c.address ≡ keyed_names (map folded (new_in b a (c ∷ [])))
    unfolding new_name filter when◌then◌else◌ folded map entry_units
    new_name_lem c = rw (B c.address, A c.address)
        (go (is_some (entry (to_ascii_lowercase c.address) b) || is_some (entry (to_ascii_lowercase c.address) a)) (entry_are c.address))
      where
        go : (t : Bool) → entry_names order p q lb c.address ≡ keyed_names (to_ascii_lowercase c.address ∷ [])
            → cond t [] (entry_names order p q lb c.address) ≡ keyed_names (map folded (when not t then c ∷ [] else []))
        go true ih = refl
        go false ih = ih

    module _ {s : List ℕ} {l : List Attendee} (S : Stood (list max_attendees attendee_f) s start l) where
      first_names : (n : ℕ) → n ≤ length l → new_names order p q lb before also s n ≡ keyed_names (map folded (new_in b a (take n l)))
      unfolding new_names filter map entry_units
      first_names zero h = refl
      first_names (suc n) h =
          ap₂ (λ (i j : List ℕ). i ++ j) (first_names n (omega arith)) (ap (new_name order p q lb before also) (address_at S n h) ∙ new_name_lem (get_or l n no_one))
          ∙ sym (ap (λ (m : List Attendee). keyed_names (map folded (new_in b a m))) (take-suc l n no_one h)
          ∙ (ap (λ (m : List Attendee). keyed_names (map folded m)) (filter_append (λ a'. not (is_some (entry (folded a') b) || is_some (entry (folded a') a))) (take n l) (get_or l n no_one ∷ []))
          ∙ (ap (λ (m : List Text). keyed_names m) (map-append folded (new_in b a (take n l)) (new_in b a (get_or l n no_one ∷ [])))
          ∙ keyed_append (map folded (new_in b a (take n l))) (map folded (new_in b a (get_or l n no_one ∷ []))))))

      all_names : new_names order p q lb before also s (entry_count s) ≡ keyed_names (map folded (new_in b a l))
      all_names =
          ap (new_names order p q lb before also s) (count_of S)
          ∙ (first_names (length l) (omega arith) ∙ ap (λ (m : List Attendee). keyed_names (map folded (new_in b a m))) (take_all (length l) l (omega arith)))

-- ---- every unit

regroup : (h a b c d e : List ℕ) → h ++ a ++ b ++ c ++ d ++ e ≡ h ++ ((a ++ (b ++ c)) ++ (d ++ e))
regroup h a b c d e = simp append_assoc

joined : {f g r s : ℕ} {a b c k l m : List ℕ} → f ≡ g → a ≡ k → b ≡ l → c ≡ m → s ≡ r
    → replicate 4 f ++ a ++ b ++ c ++ replicate 5 f ++ (r ∷ []) ≡ replicate 4 g ++ ((k ++ (l ++ m)) ++ (replicate 5 g ++ (s ∷ [])))
joined {g = g} {r = r} {k = k} {l = l} {m = m} e h i j n = rw (e, h, i, j, n) (regroup (replicate 4 g) k l m (replicate 5 g) (r ∷ []))

pub names_are : (v : Clerks) (x y : Placed) (o : Order) (p q list-bytes one two : List ℕ) → T (all_apart v)
    → Begins role_f p x.party.role → Begins role_f q y.party.role
    → Stood (list max_attendees attendee_f) list-bytes start v.event.fields.attendees
    → Stood (list max_attendees attendee_f) one start v.one.wanted.attendees
    → Stood (list max_attendees attendee_f) two start v.two.wanted.attendees
    → o ≡ record { first = x.number; second = y.number; first_owner = owner_of p; second_owner = owner_of q }
    → unit_names o p q list-bytes one two ≡ names v x y
unfolding unit_names names units
names_are v x y o p q lb one two t P Q L O W i =
    ap (λ (o : Order). unit_names o p q lb one two) i
    ∙ (joined (field_name_lem x y e p q lb P Q says) (all_names x y e p q lb P Q says [] [] [] [] says_none says_none L)
    (all_names x y e p q lb P Q says lb [] e.attendees [] says says_none O) (all_names x y e p q lb P Q says lb one e.attendees v.one.wanted.attendees says (stands_is O) W)
    (reminders_is x y e) ∙ sym model_names)
  where
    e : NormalizedEvent
    e = v.event.fields

    says : Says lb e.attendees
    says = stands_is L

    first : List Text
    first = map folded (new_in [] [] e.attendees)

    second : List Text
    second = map folded (new_in e.attendees [] v.one.wanted.attendees)

    third : List Text
    third = map folded (new_in e.attendees v.one.wanted.attendees v.two.wanted.attendees)

    in_keys : List Text → List ℕ
    in_keys keys = map (name x y e) (entry_units keys)

    keys_are : in_keys (entry_keys v) ≡ in_keys first ++ (in_keys second ++ in_keys third)
    keys_are =
        ap in_keys (keys_apart v t) ∙ (keyed_append x y e p q lb P Q says first (second ++ third)
        ∙ ap (λ (l : List ℕ). in_keys first ++ l) (keyed_append x y e p q lb P Q says second third))

    model_names : names v x y ≡ replicate 4 (name x y e Unit.Title) ++ ((in_keys first ++ (in_keys second ++ in_keys third)) ++ (replicate 5 (name x y e Unit.Title) ++ (name x y e Unit.Reminders ∷ [])))
    model_names =
        map-append (name x y e) fields_before (entry_units (entry_keys v) ++ fields_behind)
        ∙ ap₂ (λ (a b : List ℕ). a ++ b) (before_are x y e)
        (map-append (name x y e) (entry_units (entry_keys v)) fields_behind ∙ ap₂ (λ (a b : List ℕ). a ++ b) keys_are (behind_are x y e))
