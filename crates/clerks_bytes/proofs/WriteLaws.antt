-- Laws of the two writes: what a merge is lent, the event that it leaves at the front of the work buffer, and whether one has too many attendees. Assumes nothing.
use Prim.Native.Nat.{ℕ, ◌≤◌}
use native.Mathlib.Omega.{arith}
use mathlib.Core.Path.{◌≡◌, refl, sym, ap, ◌∙◌}
use mathlib.Core.List.{List, [], append-nil}
use mathlib.Core.Bool.{Bool, true, false, not, ◌&&◌}
use lib.Dec.{T, ltb, leb, leb→le}
use lib.ListN.{length, drop}
use borrow.Author.Tests.{leb-true, leb-false, lt-ltb, le-ltb}
use Rattle.model.specs.Event.{NormalizedEvent, ProviderEvent}
use Rattle.model.specs.Parts.{Role}
use Rattle.model.specs.Limits.{max_attendees}
use Rattle.model.specs.Sizes.{event_bytes}
use Rattle.model.specs.Formats.{fields_f, event_f}
use Rattle.model.specs.Merge.{merge}
use Rattle.model.proofs.Sizes.{event_within}
use Rattle.pens.specs.Writing.{Wrote}
use Rattle.pens.specs.declared.Pen.{Pen}
use Rattle.merge.specs.Given.{Begins, Given}
use Rattle.merge.specs.Parts.{fields_of, owner_of}
use Rattle.merge.proofs.EventParts.{fields_enc, fields_ok}
use Rattle.merge.proofs.Room.{event_fits}
use Rattle.clerks_model.specs.Frame as model
use Rattle.clerks_model.specs.Writes.{after_first, after_both, few, accepted}
use Rattle.clerks_model.specs.Forcing.{apart}
use Rattle.clerks_model.specs.Answer.{Placed, party_one, party_two, all_apart, both_accepted}
use Rattle.clerks_model.proofs.Theorems.{first_write_few}
use Rattle.clerks_bytes.specs.Frames.{Stands, Holds}
use Rattle.clerks_bytes.specs.Names.{order_of}
use Rattle.clerks_bytes.specs.Writes.{work_bytes, Lent, WritesFirst, Exceeds, AnyExceeds}
use Rattle.clerks_bytes.specs.declared.frames.Party.{Party}
use Rattle.clerks_bytes.specs.declared.frames.Clerks.{Clerks}
use Rattle.clerks_bytes.specs.declared.names.Order.{Order}
use Rattle.clerks_bytes.proofs.EntryLaws.{so, not_so}

abbrev pub pen : Pen
pen = record { at = 0; ok = true }

-- ---- what a merge is lent

-- the base is the frame's event's fields
pub base_begins : {frame : List ℕ} {e : ProviderEvent} → Begins event_f frame e → Begins fields_f (fields_of frame) e.fields
base_begins B = record { fits = fields_ok B; rest = []; bytes = fields_enc B ∙ sym (append-nil _) }

-- base, ours and role stand in the frame
module _ {frame : List ℕ} {p : Party} {base ours role : List ℕ} (b : base ≡ fields_of frame) (o : ours ≡ drop p.wanted frame) (r : role ≡ drop p.role frame) where
  pub given_by : {theirs : List ℕ} {e t : ProviderEvent} {x : Placed} → Begins event_f frame e → Stands frame p x → Begins event_f theirs t
      → Given base ours theirs role e.fields x.party.wanted t x.party.role
  given_by E S R = record { base = rw b (base_begins E); ours = rw o S.wanted; theirs = R; role = rw r S.role }

-- a merged event, whole, at the front of a buffer that has room for an event
pub event_front : {out out' : List ℕ} {next : Pen} (t : ProviderEvent) → event_f.Ok t → event_bytes ≤ length out → Wrote out out' pen next (event_f.enc t) → Begins event_f out' t
event_front {out} {out'} {next} t ok l W =
    let k : next.ok ≡ true = W.room refl (omega (arith, l, event_within.bytes t ok)) in
    record { fits = ok; rest = drop next.at out; bytes = (W.wrote k (omega arith)).bytes }

few_is : (e : ProviderEvent) → T (few e) → length e.fields.attendees ≤ max_attendees
unfolding few
few_is e h = leb→le (length e.fields.attendees) max_attendees h

-- ---- the first write

module _ {frame work : List ℕ} {p : Party} {e : ProviderEvent} {x : Placed} (L : Lent frame work p e x) where
  pub first_few : T (few (after_first e x.party))
  first_few = first_write_few e x.party (record { fits = L.event.fits; apart_addresses = L.apart_event }) (record { fits = L.party.wanted.fits; apart_addresses = L.apart_wanted })

module _ (frame : List ℕ) (p : Party) {work work' base ours role : List ℕ} {next : Pen} (b : base ≡ fields_of frame) (o : ours ≡ drop p.wanted frame)
    (r : role ≡ drop p.role frame) (long : length work' ≡ length work)
    (W : (b o : NormalizedEvent) (t : ProviderEvent) (by : Role) → Given base ours frame role b o t by → Wrote work work' pen next (event_f.enc (merge b o t by).event)) where
  first_is : (e : ProviderEvent) (x : Placed) → Lent frame work p e x → Begins event_f work' (after_first e x.party)
  unfolding after_first
  first_is e x L =
      let G = given_by b o r L.event L.party L.event in
      let h : length (merge e.fields x.party.wanted e x.party.role).event.fields.attendees ≤ max_attendees = few_is (after_first e x.party) (first_few L) in
      event_front (after_first e x.party) (event_fits G h) (omega (arith, L.room)) (W e.fields x.party.wanted e x.party.role G)

  pub first_written : WritesFirst frame p work work'
  first_written = record { long = long; is = first_is }

-- ---- too many attendees

is_so : (b : Bool) → T b → b ≡ true
is_so true h = refl
is_so false h = absurd h

over_is : (n : ℕ) → ltb 8 n ≡ not (leb n max_attendees)
unfolding max_attendees
over_is n = go (leb n 8) refl
  where
    go : (b : Bool) → leb n 8 ≡ b → ltb 8 n ≡ not b
    go true e = le-ltb 8 n (leb-true n 8 e)
    go false e = lt-ltb 8 n (leb-false n 8 e)

module _ (frame : List ℕ) (p q : Party) {work work' base ours role : List ℕ} {n : ℕ} (F : WritesFirst frame p work work') (b : base ≡ fields_of frame)
    (o : ours ≡ drop q.wanted frame) (r : role ≡ drop q.role frame)
    (N : (b o : NormalizedEvent) (t : ProviderEvent) (by : Role) → Given base ours work' role b o t by → n ≡ length (merge b o t by).event.fields.attendees) where
  exceeds_is : (e : ProviderEvent) (x y : Placed) → Lent frame work p e x → Stands frame q y → ltb 8 n ≡ not (accepted e x.party y.party)
  unfolding accepted few after_both
  exceeds_is e x y L S =
      let t : ProviderEvent = after_first e x.party in
      let m : n ≡ length (after_both e x.party y.party).fields.attendees
      = N e.fields y.party.wanted t y.party.role (given_by b o r L.event S (F.is e x L)) in
      ap (ltb 8) m ∙ (over_is (length (after_both e x.party y.party).fields.attendees)
      ∙ ap (λ (b : Bool). not (b && few (after_both e x.party y.party))) (sym (is_so (few t) (first_few L))))

  pub exceeds_written : Exceeds frame p q work work' (ltb 8 n)
  exceeds_written = record { long = F.long; is = exceeds_is }

-- a frame's parties in either order
pub both : (a b : Bool) → T (a && b) → T a × T b
both true b h = (tt, h)
both false b h = absurd h

module _ {frame : List ℕ} {c : Clerks} {v : model.Clerks} (H : Holds frame c v) (A : T (all_apart v)) where
  lists : T (apart v.event.fields.attendees) × (T (apart v.one.wanted.attendees) × T (apart v.two.wanted.attendees))
  unfolding all_apart
  lists =
      let h = both (apart v.event.fields.attendees && apart v.one.wanted.attendees) (apart v.two.wanted.attendees) A in
      let g = both (apart v.event.fields.attendees) (apart v.one.wanted.attendees) h.0 in
      (g.0, (g.1, h.1))

  module _ (work : List ℕ) (l : length work ≡ work_bytes) where
    pub lent_one : Lent frame work c.one v.event (party_one v)
    lent_one = record { event = H.event; party = H.one; apart_event = lists.0; apart_wanted = lists.1.0; room = l }

    pub lent_two : Lent frame work c.two v.event (party_two v)
    lent_two = record { event = H.event; party = H.two; apart_event = lists.0; apart_wanted = lists.1.1; room = l }

module _ (frame : List ℕ) (c : Clerks) {work work' : List ℕ} {a : Bool} (X : Exceeds frame c.one c.two work work' a) where
  one_order : (v : model.Clerks) → Holds frame c v → T (all_apart v) → length work ≡ work_bytes → a ≡ not (accepted v.event v.one v.two)
  one_order v H A l = X.is v.event (party_one v) (party_two v) (lent_one H A work l) H.two

  pub any_first : a ≡ true → AnyExceeds frame c work work' true
  unfolding both_accepted
  any_first h = record { long = X.long; is = λ v H A l. rw (not_so (accepted v.event v.one v.two) (one_order v H A l) h) }

  module _ (h : a ≡ false) {work'' : List ℕ} {b : Bool} (Y : Exceeds frame c.two c.one work' work'' b) where
    any_is : (v : model.Clerks) → Holds frame c v → T (all_apart v) → length work ≡ work_bytes → b ≡ not (both_accepted v)
    unfolding both_accepted
    any_is v H A l =
        rw (so (accepted v.event v.one v.two) (one_order v H A l) h)
        (Y.is v.event (party_two v) (party_one v) (lent_two H A work' (X.long ∙ l)) H.one)

    pub any_second : AnyExceeds frame c work work'' b
    any_second = record { long = Y.long ∙ X.long; is = any_is }

-- ---- who writes first and second

pub order_is : (frame : List ℕ) (p q : Party) {s t : List ℕ} {a b : Bool} → s ≡ drop p.role frame → a ≡ owner_of s → t ≡ drop q.role frame → b ≡ owner_of t
    → ◌≡◌ {A = Order} (record { first = p.number; second = q.number; first_owner = a; second_owner = b }) (order_of frame p q)
unfolding order_of
order_is frame p q {a = a} {b = b} d e f g =
    ap (λ (a : Bool). record { first = p.number; second = q.number; first_owner = a; second_owner = b }) (e ∙ ap owner_of d)
    ∙ ap (λ (b : Bool). record { first = p.number; second = q.number; first_owner = owner_of (drop p.role frame); second_owner = b }) (g ∙ ap owner_of f)
