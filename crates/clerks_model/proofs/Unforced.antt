-- Who is not named can't force the unit: an update of the other's leaves it unlike a given value. Assumes nothing.
use Rattle.std.specs.Prelude.{Option, Some, None}
use Rattle.format.proofs.Options.{None-ne-Some, Some_inj}
use mathlib.Core.Path.{◌≡◌, refl, sym, ap, ◌∙◌, subst}
use mathlib.Core.List.{List, [], ◌∷◌}
use mathlib.Core.Bool.{Bool, true, false, not, ◌&&◌, true≢false}
use lib.Dec.{T}
use Rattle.format.specs.Format.{option, via, ◌⊗◌, below}
use Rattle.format.proofs.FormatLaws.{option_law}
use Rattle.format.proofs.WholeLaws.{enc_injective}
use Rattle.model.specs.Event.{Text, Attendee, Participation, NormalizedEvent, ProviderEvent}
use Rattle.model.specs.Parts.{Role, Field, FieldValue}
use Rattle.model.specs.Maps.{when◌then◌else◌, by_name, by, same_text, is_some}
use Rattle.model.specs.Formats.{attendee_f, participation_f}
use Rattle.model.specs.Merge.{rest, with_participation, whole_entry, own_reply, own_standing, own_entry, to_ascii_lowercase, is_own, is_owner, merge}
use Rattle.model.proofs.FormatsLaws.{attendee_f_law}
use Rattle.model.proofs.Tables.{same_true, and_both}
use Rattle.model.proofs.MergeReports.{part_theirs}
use Rattle.model.proofs.ValidParts.{some_ok, ok_some, event_fields}
use Rattle.clerks_model.specs.Units.{Unit, by_kind, folded, entry, rest_of, reply_of, value}
use Rattle.clerks_model.specs.Writes.{after_first, after_both, few, accepted}
use Rattle.clerks_model.specs.Forcing.{apart, Update, FirstForces, SecondForces, FirstCan, SecondCan}
use Rattle.clerks_model.specs.Naming.{own_there, attendee_may, may_change, saved_by}
use Rattle.clerks_model.specs.Claims.{Event, Proper}
use Rattle.clerks_model.proofs.Parts.{Part, stays, moves, same_bytes, part_is}
use Rattle.clerks_model.proofs.Entries.{entry_merged, merge_entry, merge_apart}
use Rattle.clerks_model.proofs.OneEntry.{entry_ok, standing_rest, owner_entry, reply_owned, Own, own_of, entry_kept, attendee_rest, entry_echo}
use Rattle.clerks_model.proofs.UnitKinds.{Kind, a_field, a_rest, a_reply, kind_of, field_kept, field_echo}
use Rattle.clerks_model.proofs.Forced.{may_own, owner_merged, kept_merged}
use Rattle.clerks_model.proofs.Values.{plain, unlike_bytes, participation_ok, alone, alone_update, Unlike, unlike_value}
use Rattle.clerks_model.proofs.Counting.{event_is_few, echo_few, attendee_few, owner_few}

-- ---- merges that leave the units

base_update : (e : ProviderEvent) → Event e → Update e.fields
base_update e ev = record { fits = event_fields e ev.fits; apart_addresses = ev.apart_addresses }

-- an update that wants the base
module _ (b : NormalizedEvent) (t : ProviderEvent) (role : Role) (pb : T (apart b.attendees)) (pt : T (apart t.fields.attendees)) where
  echo_entry : (key : Text) → entry key (merge b b t role).event.fields.attendees ≡ entry key t.fields.attendees
  echo_entry key = merge_entry b b t role key pb pt ∙ entry_echo role key _ _

  echo_value : (u : Unit) → value u (merge b b t role).event.fields ≡ value u t.fields
  unfolding value
  echo_value u = go u (kind_of u)
    where
      go : (u : Unit) → Kind u → value u (merge b b t role).event.fields ≡ value u t.fields
      go u (a_field u' f) = field_echo f b t role
      go u (a_rest key) = ap rest_of (echo_entry key)
      go u (a_reply key) = ap reply_of (echo_entry key)

-- an attendee's, of a unit that it may not change
module _ (b o : NormalizedEvent) (t : ProviderEvent) (address : Text) (po : T (apart o.attendees)) (pt : T (apart t.fields.attendees))
    (stood : (key : Text) → entry key t.fields.attendees ≡ entry key b.attendees) where
  kept_value : (u : Unit) → attendee_may (Role.Attendee address) b u ≡ false → value u (merge b o t (Role.Attendee address)).event.fields ≡ value u t.fields
  unfolding value attendee_may own_there by_kind
  kept_value u h = go u (kind_of u) h
    where
      go : (u : Unit) → Kind u → attendee_may (Role.Attendee address) b u ≡ false → value u (merge b o t (Role.Attendee address)).event.fields ≡ value u t.fields
      go u (a_field u' f) h = field_kept f b o t (Role.Attendee address) (sym (may_own f address b) ∙ h)
      go u (a_rest key) h = ap rest_of (merge_entry b o t (Role.Attendee address) key po pt) ∙ attendee_rest address key _ _ _
      go u (a_reply key) h = ap reply_of (merge_entry b o t (Role.Attendee address) key po pt
          ∙ ap (entry_merged (Role.Attendee address) key (entry key b.attendees) (entry key o.attendees)) (stood key)
          ∙ entry_kept address key (entry key b.attendees) (entry key o.attendees) h ∙ sym (stood key))

-- ---- an attendee who writes first can't force what it may not change: the second wants the base

pub first_cannot : (e : ProviderEvent) (first second : Role) (u : Unit) → Event e → Proper u → may_change first e.fields u ≡ false → FirstCan e first second u → ⊥
unfolding may_change is_owner after_both after_first accepted
first_cannot e Role.Owner second u ev p h can = true≢false h
first_cannot e (Role.Attendee address) second u ev p h can = go (can x.v x.given x.differs)
  where
    x : Unlike u (value u e.fields)
    x = unlike_value u (value u e.fields) p

    go : FirstForces e (Role.Attendee address) second u x.v → ⊥
    go f = x.differs (sym (f.forced e.fields (base_update e ev) acc) ∙ echo_value e.fields m second ev.apart_addresses m_apart u
        ∙ kept_value e.fields f.wanted e address f.update.apart_addresses ev.apart_addresses (λ key. refl) u h)
      where
        m : ProviderEvent
        m = (merge e.fields f.wanted e (Role.Attendee address)).event

        m_apart : T (apart m.fields.attendees)
        m_apart = merge_apart e.fields f.wanted e (Role.Attendee address) f.update.apart_addresses ev.apart_addresses

        m_few : T (few m)
        m_few = attendee_few e.fields f.wanted e address (event_is_few e ev)

        acc : T (few m && few (merge e.fields e.fields m second).event)
        acc = and_both (few m) _ m_few (echo_few e.fields m second ev.apart_addresses m_apart m_few)

-- ---- the first, an attendee, wants the base

module _ (e : ProviderEvent) (address : Text) (ev : Event e) where
  echoed : ProviderEvent
  echoed = (merge e.fields e.fields e (Role.Attendee address)).event

  echoed_apart : T (apart echoed.fields.attendees)
  unfolding echoed
  echoed_apart = merge_apart e.fields e.fields e (Role.Attendee address) ev.apart_addresses ev.apart_addresses

  echoed_few : T (few echoed)
  unfolding echoed
  echoed_few = attendee_few e.fields e.fields e address (event_is_few e ev)

  echoed_entry : (key : Text) → entry key echoed.fields.attendees ≡ entry key e.fields.attendees
  unfolding echoed
  echoed_entry key = echo_entry e.fields e (Role.Attendee address) ev.apart_addresses ev.apart_addresses key

-- so another can't force what it may not change
second_cannot : (e : ProviderEvent) (address mine : Text) (u : Unit) → Event e → Proper u → attendee_may (Role.Attendee mine) e.fields u ≡ false
    → SecondCan e (Role.Attendee address) (Role.Attendee mine) u → ⊥
unfolding after_both after_first accepted echoed
second_cannot e address mine u ev p h can = go (can x.v x.given x.differs)
  where
    x : Unlike u (value u e.fields)
    x = unlike_value u (value u e.fields) p

    go : SecondForces e (Role.Attendee address) (Role.Attendee mine) u x.v → ⊥
    go f = x.differs (sym (f.forced e.fields (base_update e ev)
        (and_both (few (echoed e address ev)) _ (echoed_few e address ev) (attendee_few e.fields f.wanted (echoed e address ev) mine (echoed_few e address ev))))
        ∙ kept_value e.fields f.wanted (echoed e address ev) mine f.update.apart_addresses (echoed_apart e address ev) (echoed_entry e address ev) u h
        ∙ echo_value e.fields e (Role.Attendee address) ev.apart_addresses ev.apart_addresses u)

-- ---- the reply of the first, an attendee, keeps the rest of its own entry from an owner who writes second

entry_named : (key : Text) (l : List Attendee) (a : Attendee) → entry key l ≡ Some a → folded a ≡ key
unfolding entry when◌then◌else◌
entry_named key [] a e = absurd (None-ne-Some a e)
entry_named key (x ∷ l) a e = go (same_text (folded x) key) refl (entry_named key l a) e
  where
    go : (c : Bool) → same_text (folded x) key ≡ c → (entry key l ≡ Some a → folded a ≡ key) → (when c then Some x else entry key l) ≡ Some a → folded a ≡ key
    go true f ih e = ap folded (sym (Some_inj.0 e)) ∙ same_true (folded x) key f
    go false f ih e = ih e

another : Participation → Participation
another Participation.NeedsAction = Participation.Accepted
another Participation.Accepted = Participation.NeedsAction
another Participation.Declined = Participation.NeedsAction
another Participation.Tentative = Participation.NeedsAction
another Participation.Delegated = Participation.NeedsAction

is_another : (p : Participation) → participation_f.enc (another p) ≡ participation_f.enc p → ⊥
unfolding another participation_f via below same_text by_name by
is_another Participation.NeedsAction e = unlike_bytes _ _ refl (ap Some e)
is_another Participation.Accepted e = unlike_bytes _ _ refl (ap Some e)
is_another Participation.Declined e = unlike_bytes _ _ refl (ap Some e)
is_another Participation.Tentative e = unlike_bytes _ _ refl (ap Some e)
is_another Participation.Delegated e = unlike_bytes _ _ refl (ap Some e)

replied_ok : (p : Participation) (a : Attendee) → attendee_f.Ok a → attendee_f.Ok (with_participation p a)
unfolding with_participation attendee_f via ◌⊗◌
replied_ok p a h = (h.0, (h.1.0, (h.1.1.0, (participation_ok p, h.1.1.1.1))))

-- where the first leaves the entry, an owner's merge has it as wanted
as_wanted : (e : ProviderEvent) (w : NormalizedEvent) → Event e → Update w → (k : Text) (t : Option Attendee) → t ≡ entry k e.fields.attendees
    → T (is_some (entry_merged Role.Owner k (entry k e.fields.attendees) (entry k w.attendees) t)) → T (is_some (entry k w.attendees))
as_wanted e w ev up k t h s = subst (λ (v : Option Attendee). T (is_some v))
    (ap (entry_merged Role.Owner k (entry k e.fields.attendees) (entry k w.attendees)) h
    ∙ owner_entry k (entry k e.fields.attendees) (entry k w.attendees) (entry_ok k e.fields (event_fields e ev.fits)) (entry_ok k w up.fits)) s

-- both have the entry: the first gives another reply
module _ (e : ProviderEvent) (address key : Text) (ev : Event e) (own : same_text (to_ascii_lowercase address) key ≡ true) (w : NormalizedEvent) (up : Update w)
    (b o : Attendee) (is_b : entry key e.fields.attendees ≡ Some b) (is-o : entry key w.attendees ≡ Some o) where
  replied : Attendee
  replied = with_participation (another b.participation) b

  reply : NormalizedEvent
  reply = plain (replied ∷ [])

  ok_b : attendee_f.Ok b
  ok_b = ok_some attendee_f b (subst (λ (v : Option Attendee). (option attendee_f).Ok v) is_b (entry_ok key e.fields (event_fields e ev.fits)))

  reply_update : Update reply
  unfolding reply replied
  reply_update = alone_update replied (replied_ok (another b.participation) b ok_b)

  answered : ProviderEvent
  answered = (merge e.fields reply e (Role.Attendee address)).event

  answered_apart : T (apart answered.fields.attendees)
  unfolding answered
  answered_apart = merge_apart e.fields reply e (Role.Attendee address) reply_update.apart_addresses ev.apart_addresses

  answered_few : T (few answered)
  unfolding answered
  answered_few = attendee_few e.fields reply e address (event_is_few e ev)

  reply_entry : entry key reply.attendees ≡ Some replied
  unfolding reply plain replied folded with_participation
  reply_entry = ap (λ (k : Text). entry k (replied ∷ [])) (sym (entry_named key e.fields.attendees b is_b)) ∙ alone b replied refl

  t : Option Attendee
  t = entry key answered.fields.attendees

  t_is : t ≡ (own_standing b replied b).value
  unfolding t answered entry_merged is_own own_entry when◌then◌else◌
  t_is = merge_entry e.fields reply e (Role.Attendee address) key reply_update.apart_addresses ev.apart_addresses
      ∙ ap (λ (x : Option Attendee). entry_merged (Role.Attendee address) key x (entry key reply.attendees) x) is_b
      ∙ ap (λ (y : Option Attendee). entry_merged (Role.Attendee address) key (Some b) y (Some b)) reply_entry
      ∙ ap (λ (c : Bool). (when c then own_entry (Some b) (Some replied) (Some b) else whole_entry (is_owner (Role.Attendee address)) (Some b) (Some replied) (Some b)).value) own

  t_ok : (option attendee_f).Ok t
  unfolding own_standing rest
  t_ok = subst (λ (v : Option Attendee). (option attendee_f).Ok v)
      (sym (t_is ∙ ap (λ (x : Attendee). Some (with_participation (own_reply b replied b).value x))
      (part_theirs attendee_f (λ r. FieldValue.Attendee (Some r)) Field.Attendees (Some b.address) (rest b) (rest replied) (rest b)).value))
      (some_ok attendee_f _ (replied_ok _ _ (replied_ok _ b ok_b)))

  -- its reply is unlike the base's
  t_differs : t ≡ Some b → ⊥
  unfolding own_standing reply_of with_participation replied
  t_differs h = is_another b.participation (Some_inj.0 (sym (ap Some (reply_owned b replied)) ∙ ap reply_of (sym t_is ∙ h)))

  -- so the whole of it stands in the owner's merge
  t_stands : (v : Option Attendee) → Part (option attendee_f) (Some b) (Some o) t v → v ≡ t
  t_stands v stays = refl
  t_stands v (moves h) = absurd (t_differs (enc_injective (option_law attendee_f_law) t (Some b) t_ok (some_ok attendee_f b ok_b) (same_bytes (option attendee_f) t (Some b) h)))

  rest_stands : rest_of (entry key (merge e.fields w answered Role.Owner).event.fields.attendees) ≡ rest_of (entry key e.fields.attendees)
  unfolding entry_merged is_own is_owner when◌then◌else◌ whole_entry t
  rest_stands = ap rest_of (merge_entry e.fields w answered Role.Owner key up.apart_addresses answered_apart
      ∙ ap (λ (x : Option Attendee). entry_merged Role.Owner key x (entry key w.attendees) t) is_b
      ∙ ap (λ (y : Option Attendee). entry_merged Role.Owner key (Some b) y t) is-o
      ∙ t_stands _ (part_is (option attendee_f) FieldValue.Attendee Field.Attendees _ true (Some b) (Some o) t))
      ∙ ap rest_of t_is ∙ standing_rest b replied b ∙ ap rest_of (sym is_b)

  -- and the owner's list has only entries that it wants
  wanted_only : (k : Text) → T (is_some (entry_merged Role.Owner k (entry k e.fields.attendees) (entry k w.attendees) (entry k answered.fields.attendees)))
      → T (is_some (entry k w.attendees))
  unfolding is_some own_there answered
  wanted_only k h = go (same_text key k) refl
    where
      go : (c : Bool) → same_text key k ≡ c → T (is_some (entry k w.attendees))
      go true q = subst (λ (v : Option Attendee). T (is_some v)) (sym (ap (λ (k : Text). entry k w.attendees) (sym (same_true key k q)) ∙ is-o)) tt
      go false q = as_wanted e w ev up k (entry k answered.fields.attendees)
          (kept_merged e reply e ev reply_update ev.apart_addresses address k refl
          (ap (λ (c : Bool). c && is_some (entry k e.fields.attendees)) (ap (λ (x : Text). same_text x k) (same_true (to_ascii_lowercase address) key own) ∙ q))) h

  wanted_few : T (few (merge e.fields w answered Role.Owner).event)
  wanted_few = owner_few e.fields w answered up answered_apart wanted_only

no_value : {A : Type 0} (v : Option A) → T (is_some v) → v ≡ None → ⊥
unfolding is_some
no_value {A} v t e = subst (λ (v : Option A). T (is_some v)) e t

saved_cannot : (e : ProviderEvent) (address key : Text) → Event e → Proper (Unit.Rest key) → own_there (Role.Attendee address) e.fields key ≡ true
    → SecondCan e (Role.Attendee address) Role.Owner (Unit.Rest key) → ⊥
unfolding after_both after_first accepted value echoed rest_of answered
saved_cannot e address key ev p h can = go (can x.v x.given x.differs)
  where
    x : Unlike (Unit.Rest key) (value (Unit.Rest key) e.fields)
    x = unlike_value (Unit.Rest key) (value (Unit.Rest key) e.fields) p

    own : Own address key (entry key e.fields.attendees)
    own = own_of address key e.fields h

    go : SecondForces e (Role.Attendee address) Role.Owner (Unit.Rest key) x.v → ⊥
    go f = pick (entry key w.attendees) refl (entry key e.fields.attendees) refl
      where
        w : NormalizedEvent
        w = f.wanted

        pick : (y : Option Attendee) → entry key w.attendees ≡ y → (b : Option Attendee) → entry key e.fields.attendees ≡ b → ⊥
        pick y is_y None is_b = no_value (entry key e.fields.attendees) own.there is_b
        -- the owner wants no such entry: then it has none where the first wants the base
        pick None is_y (Some b) is_b = no_value x.v x.there
            (sym (f.forced e.fields (base_update e ev) (and_both (few (echoed e address ev)) _ (echoed_few e address ev)
            (owner_few e.fields w (echoed e address ev) f.update (echoed_apart e address ev)
            (λ k. as_wanted e w ev f.update k (entry k (echoed e address ev).fields.attendees) (echoed_entry e address ev k)))))
            ∙ ap rest_of (owner_merged e w (echoed e address ev) ev f.update (echoed_apart e address ev) key (echoed_entry e address ev key) ∙ is_y))
        pick (Some o) is_y (Some b) is_b = x.differs
            (sym (f.forced (reply e address key ev own.own w f.update b o is_b is_y) (reply_update e address key ev own.own w f.update b o is_b is_y)
            (and_both (few (answered e address key ev own.own w f.update b o is_b is_y)) _
            (answered_few e address key ev own.own w f.update b o is_b is_y) (wanted_few e address key ev own.own w f.update b o is_b is_y)))
            ∙ rest_stands e address key ev own.own w f.update b o is_b is_y)

-- ---- where nobody is named, the second can't either

-- only the rest of an entry is kept so
only_rest : {P : Type 0} (first : Role) (e : NormalizedEvent) (u : Unit) → saved_by first e u ≡ true → ((key : Text) → u ≡ Unit.Rest key → own_there first e key ≡ true → P) → P
unfolding saved_by by_kind
only_rest {P} first e u h f = go u (kind_of u) h f
  where
    go : (u : Unit) → Kind u → saved_by first e u ≡ true → ((key : Text) → u ≡ Unit.Rest key → own_there first e key ≡ true → P) → P
    go u (a_field u' g) h f = absurd (true≢false (sym h ∙ g.by_field false _ _))
    go u (a_rest key) h f = f key refl h
    go u (a_reply key) h f = absurd (true≢false (sym h))

rest_no : (role : Role) (e : NormalizedEvent) (key : Text) → attendee_may role e (Unit.Rest key) ≡ true → ⊥
unfolding attendee_may by_kind
rest_no role e key h = true≢false (sym h)

not-false : (b : Bool) → not b ≡ false → b ≡ true
not-false true e = refl
not-false false e = absurd (true≢false e)

pub nobody_else : (e : ProviderEvent) (first second : Role) (u : Unit) → Event e → Proper u → may_change first e.fields u ≡ false
    → (may_change second e.fields u && not (saved_by first e.fields u)) ≡ false → SecondCan e first second u → ⊥
unfolding may_change is_owner
nobody_else e Role.Owner second u ev p f g can = true≢false f
nobody_else e (Role.Attendee address) Role.Owner u ev p f g can =
    only_rest (Role.Attendee address) e.fields u (not-false (saved_by (Role.Attendee address) e.fields u) g)
    (λ key is h. saved_cannot e address key ev (subst (λ (u : Unit). Proper u) is p) h (subst (λ (u : Unit). SecondCan e (Role.Attendee address) Role.Owner u) is can))
nobody_else e (Role.Attendee address) (Role.Attendee mine) u ev p f g can = go (attendee_may (Role.Attendee mine) e.fields u) refl g
  where
    go : (c : Bool) → attendee_may (Role.Attendee mine) e.fields u ≡ c → (c && not (saved_by (Role.Attendee address) e.fields u)) ≡ false → ⊥
    go false h g = second_cannot e address mine u ev p h can
    go true h g = only_rest (Role.Attendee address) e.fields u (not-false (saved_by (Role.Attendee address) e.fields u) g)
        (λ key is q. rest_no (Role.Attendee mine) e.fields key (subst (λ (u : Unit). attendee_may (Role.Attendee mine) e.fields u ≡ true) is h))
