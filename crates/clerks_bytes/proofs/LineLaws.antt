-- The line of an order: what the second merge and the names left at the front of its buffer. Assumes nothing.
use Prim.Native.Nat.{ℕ, ◌+◌, ◌≤◌}
use native.Mathlib.Omega.{arith}
use mathlib.Core.Path.{◌≡◌, refl, ap₂, ◌∙◌}
use mathlib.Core.List.{List, ◌++◌}
use mathlib.Core.Bool.{Bool, true, false, ◌&&◌}
use lib.Dec.{T, leb→le}
use lib.ListN.{length, drop, length-append}
use Rattle.format.specs.Format.{◌⊗◌, via}
use Rattle.model.specs.Event.{NormalizedEvent, ProviderEvent}
use Rattle.model.specs.Parts.{Role}
use Rattle.model.specs.Limits.{max_attendees}
use Rattle.model.specs.Formats.{event_f}
use Rattle.model.specs.Merge.{merge}
use Rattle.model.proofs.Sizes.{event_within}
use Rattle.pens.specs.Writing.{Wrote}
use Rattle.pens.specs.declared.Pen.{Pen}
use Rattle.pens.proofs.Laws.{wrote_then, wrote_as}
use Rattle.merge.specs.Given.{Given}
use Rattle.merge.specs.Parts.{fields_of, owner_of}
use Rattle.merge.proofs.Room.{event_fits}
use Rattle.clerks_model.specs.Frame.{clerks_f, party_f}
use Rattle.clerks_model.specs.Frame as model
use Rattle.clerks_model.specs.Writes.{after_first, after_both, few, accepted}
use Rattle.clerks_model.specs.Answer.{Placed, names, line, all_apart}
use Rattle.clerks_model.proofs.Keys.{names_bounded}
use Rattle.clerks_bytes.specs.Frames.{Stands, Holds}
use Rattle.clerks_bytes.specs.Entries.{list_of}
use Rattle.clerks_bytes.specs.Names.{order_of, unit_names}
use Rattle.clerks_bytes.specs.Writes.{line_bytes, Lent, WritesFirst, Front, WritesLine}
use Rattle.clerks_bytes.specs.declared.frames.Party.{Party}
use Rattle.clerks_bytes.specs.declared.frames.Clerks.{Clerks}
use Rattle.clerks_bytes.specs.declared.names.Order.{Order}
use Rattle.clerks_bytes.proofs.EntryLaws.{list_stood, event_list_stood}
use Rattle.clerks_bytes.proofs.WriteLaws.{pen, given_by}
use Rattle.clerks_bytes.proofs.Naming.{names_are}

-- a frame's values fit
fits : {frame : List ℕ} {c : Clerks} {v : model.Clerks} → Holds frame c v → clerks_f.Ok v
unfolding clerks_f party_f via ◌⊗◌
fits H = (H.event.fits, ((H.one.role.fits, H.one.wanted.fits), (H.two.role.fits, H.two.wanted.fits)))

second_few : (e : ProviderEvent) (p q : model.Party) → T (accepted e p q) → length (after_both e p q).fields.attendees ≤ max_attendees
unfolding accepted few
second_few e p q h = leb→le _ max_attendees (go (few (after_first e p)) (few (after_both e p q)) h)
  where
    go : (a b : Bool) → T (a && b) → T b
    go true b h = h
    go false b h = absurd h

-- who writes, by their numbers in the frame
order_by : (frame : List ℕ) (p q : Party) (x y : Placed) → Stands frame p x → Stands frame q y
    → order_of frame p q ≡ record { first = x.number; second = y.number; first_owner = owner_of (drop p.role frame); second_owner = owner_of (drop q.role frame) }
unfolding order_of
order_by frame p q x y X Y =
    ap₂ (λ (a b : ℕ). record { first = a; second = b; first_owner = owner_of (drop p.role frame); second_owner = owner_of (drop q.role frame) }) X.number Y.number

-- the parts of the frame that the names are written by
pub named_by : (frame : List ℕ) (c : Clerks) (p q : Party) {a b : List ℕ} {event last : Pen} {o : Order} {s t l one two base ours other : List ℕ} → o ≡ order_of frame p q
    → s ≡ drop p.role frame → t ≡ drop q.role frame → base ≡ fields_of frame → l ≡ list_of base → ours ≡ drop c.one.wanted frame → one ≡ list_of ours
    → other ≡ drop c.two.wanted frame → two ≡ list_of other → Wrote a b event last (unit_names o s t l one two)
    → Wrote a b event last (unit_names (order_of frame p q) (drop p.role frame) (drop q.role frame) (list_of (fields_of frame)) (list_of (drop c.one.wanted frame)) (list_of (drop c.two.wanted frame)))
named_by frame c p q o s t b l u m v n W = rw (← o, ← s, ← t, ← b, ← l, ← u, ← m, ← v, ← n) W

module _ (frame : List ℕ) (c : Clerks) (p q : Party) {out out₁ out' work work' base ours role : List ℕ} {event last : Pen} (F : WritesFirst frame p work work')
    (b : base ≡ fields_of frame) (o : ours ≡ drop q.wanted frame) (r : role ≡ drop q.role frame)
    (E : (b o : NormalizedEvent) (t : ProviderEvent) (by : Role) → Given base ours work' role b o t by → Wrote out out₁ pen event (event_f.enc (merge b o t by).event))
    (N : Wrote out₁ out' event last (unit_names (order_of frame p q) (drop p.role frame) (drop q.role frame) (list_of (fields_of frame))
    (list_of (drop c.one.wanted frame)) (list_of (drop c.two.wanted frame)))) where
  line_is : (v : model.Clerks) (x y : Placed) → Holds frame c v → T (all_apart v) → Lent frame work p v.event x → Stands frame q y
      → T (accepted v.event x.party y.party) → length out ≡ line_bytes → Front (line v x y) out out' last.at
  unfolding line after_both
  line_is v x y H A L S h l =
      let t : ProviderEvent = after_both v.event x.party y.party in
      let G = given_by b o r L.event S (F.is v.event x L) in
      let ok : event_f.Ok t = event_ok G in
      let W : Wrote out out₁ pen event (event_f.enc t) = event_wrote G in
      let n : unit_names (order_of frame p q) (drop p.role frame) (drop q.role frame) (list_of (fields_of frame)) (list_of (drop c.one.wanted frame)) (list_of (drop c.two.wanted frame)) ≡ names v x y
      = names_are v x y _ _ _ _ _ _ A L.party.role S.role (event_list_stood H.event) (list_stood H.one.wanted) (list_stood H.two.wanted) (order_by frame p q x y L.party S) in
      let Z : Wrote out out' pen last (event_f.enc t ++ names v x y) = wrote_then W (wrote_as N n) in
      let e = event_within.bytes t ok in
      let m = names_bounded v x y (fits H) in
      let k = length-append (event_f.enc t) (names v x y) in
      let done : last.ok ≡ true = Z.room refl (omega (arith, l, e, m, k)) in
      let s = Z.wrote done (omega arith) in
      let z : 0 + length (event_f.enc t ++ names v x y) ≡ length (event_f.enc t ++ names v x y) = omega arith in
      record { place = s.place ∙ z; is = s.bytes }
    where
      event_ok : Given base ours work' role v.event.fields y.party.wanted (after_first v.event x.party) y.party.role → event_f.Ok (after_both v.event x.party y.party)
      event_ok G = event_fits G (second_few v.event x.party y.party h)

      event_wrote : Given base ours work' role v.event.fields y.party.wanted (after_first v.event x.party) y.party.role
          → Wrote out out₁ pen event (event_f.enc (after_both v.event x.party y.party))
      event_wrote G = E v.event.fields y.party.wanted (after_first v.event x.party) y.party.role G

  pub line_written : WritesLine frame c p q out out' work work' last.at
  line_written = record { long = F.long; is = line_is }
