-- Every byte of a line names the party that can force its unit. Assumes nothing.
use Rattle.std.specs.Prelude.{Option, Some, None}
use Prim.Native.Nat.{ℕ}
use native.Mathlib.Omega.{arith}
use mathlib.Core.Path.{◌≡◌, refl, sym, ap, ◌∙◌, subst}
use mathlib.Core.List.{List, [], ◌∷◌}
use mathlib.Core.Bool.{Bool, true, false, not, ◌&&◌}
use lib.ListN.{length, take}
use lib.Seq.{take-append_seam}
use lib.Dec.{T}
use Rattle.format.specs.Format.{All, whole_of, ◌⊗◌, via}
use Rattle.model.specs.Parts.{Role}
use Rattle.model.specs.Maps.{when◌then◌else◌, map}
use Rattle.model.specs.Formats.{Bytes}
use Rattle.clerks_model.specs.Frame.{Clerks, party_f, clerks_f}
use Rattle.clerks_model.specs.Units.{Unit, units}
use Rattle.clerks_model.specs.Writes.{accepted}
use Rattle.clerks_model.specs.Forcing.{apart, Update, FirstCan}
use Rattle.clerks_model.specs.Naming.{named}
use Rattle.clerks_model.specs.Answer.{Placed, number_of, names, line, party_one, party_two, Answer, all_apart, both_accepted, judged, answered, two_clerks}
use Rattle.clerks_model.specs.Claims.{Event, Proper}
use Rattle.clerks_model.proofs.Theorems.{named_rightly, first_owner_forces, second_only_where_base_stood, clerks_exact, units_proper}
use Rattle.clerks_model.proofs.Refusals.{Coded, coded}
use Rattle.clerks_bytes.specs.Returned.{Returned, filled, returned, lengths_right, asked}
use Rattle.clerks_bytes.specs.Claims.{Called, NamesEach, end, more, LineRight, EveryCallNames}
use Rattle.clerks_bytes.proofs.WriteLaws.{both}

-- ---- a line of a frame's own parties

names_each : (c : Clerks) (p q : Placed) → Event c.event → (us : List Unit) → All Proper us
    → NamesEach c.event p q us (map (λ u. number_of p q (named p.party.role q.party.role c.event.fields u)) us)
unfolding map
names_each c p q ev [] h = end
names_each c p q ev (u ∷ us) h = more u us _ _ (named_rightly c.event p.party.role q.party.role u ev h.0) (names_each c p q ev us h.1)

owner_forces : (c : Clerks) (role : Role) (second : Role) → Event c.event → role ≡ Role.Owner → (u : Unit) → FirstCan c.event role second u
owner_forces c role second ev e u = subst (λ (r : Role). FirstCan c.event r second u) (sym e) (first_owner_forces c.event second u ev)

line_right : (c : Clerks) (p q : Placed) → clerks_f.Ok c → Event c.event → Update p.party.wanted → Update q.party.wanted → T (accepted c.event p.party q.party)
    → LineRight c p q (line c p q)
unfolding line names
line_right c p q ok ev first second a = record {
  names = names c p q;
  is = refl;
  named = names_each c p q ev (units c) (units_proper c ok);
  owner_forces = λ e u. owner_forces c p.party.role q.party.role ev e u;
  second_only = λ u. second_only_where_base_stood c.event p.party q.party u ev first second a;
}

-- ---- the frame behind two lines

record Judged (frame : Bytes) (a b : Bytes) : Type 0 where
  clerks : Clerks
  held : whole_of clerks_f frame ≡ Some clerks
  apart_all : all_apart clerks ≡ true
  accepted_both : both_accepted clerks ≡ true
  one : a ≡ line clerks (party_one clerks) (party_two clerks)
  two : b ≡ line clerks (party_two clerks) (party_one clerks)

first_of : Answer → Bytes
first_of (Answer.Refused n) = []
first_of (Answer.Lines a b) = a

second_of : Answer → Bytes
second_of (Answer.Refused n) = []
second_of (Answer.Lines a b) = b

is_lines : Answer → Bool
is_lines (Answer.Refused n) = false
is_lines (Answer.Lines a b) = true

not_lines : {P : Type 0} (n : ℕ) (a b : Bytes) → Answer.Refused n ≡ Answer.Lines a b → P
unfolding is_lines
not_lines n a b e = absurd (subst (λ (x : Answer). T (is_lines x)) (sym e) tt)

judged_lines : (c : Clerks) (a b : Bytes) → judged c ≡ Answer.Lines a b
    → (all_apart c ≡ true) × ((both_accepted c ≡ true) × ((a ≡ line c (party_one c) (party_two c)) × (b ≡ line c (party_two c) (party_one c))))
unfolding judged when◌then◌else◌ first_of second_of
judged_lines c a b e = go (all_apart c) (both_accepted c) refl refl e
  where
    go : (x y : Bool) → all_apart c ≡ x → both_accepted c ≡ y
        → (when not x then Answer.Refused 10 else (when not y then Answer.Refused 6 else Answer.Lines (line c (party_one c) (party_two c)) (line c (party_two c) (party_one c)))) ≡ Answer.Lines a b
        → (all_apart c ≡ true) × ((both_accepted c ≡ true) × ((a ≡ line c (party_one c) (party_two c)) × (b ≡ line c (party_two c) (party_one c))))
    go false y f g e = not_lines _ a b e
    go true false f g e = not_lines _ a b e
    go true true f g e = (f, (g, (sym (ap first_of e), sym (ap second_of e))))

held_lines : (frame a b : Bytes) → two_clerks frame ≡ Answer.Lines a b → Judged frame a b
unfolding two_clerks answered
held_lines frame a b e = go (whole_of clerks_f frame) refl e
  where
    go : (x : Option Clerks) → whole_of clerks_f frame ≡ x → answered x ≡ Answer.Lines a b → Judged frame a b
    go None h e = not_lines _ a b e
    go (Some c) h e =
        let j = judged_lines c a b e in
        record { clerks = c; held = h; apart_all = j.0; accepted_both = j.1.0; one = j.1.1.0; two = j.1.1.1 }

-- ---- both orders

so : {x : Bool} → x ≡ true → T x
so e = subst (λ (b : Bool). T b) (sym e) tt

record Right (c : Clerks) : Type 0 where
  one : LineRight c (party_one c) (party_two c) (line c (party_one c) (party_two c))
  two : LineRight c (party_two c) (party_one c) (line c (party_two c) (party_one c))

right : (c : Clerks) → clerks_f.Ok c → all_apart c ≡ true → both_accepted c ≡ true → Right c
unfolding all_apart both_accepted clerks_f party_f via ◌⊗◌
right c ok a b =
    let l = both (apart c.event.fields.attendees && apart c.one.wanted.attendees) (apart c.two.wanted.attendees) (so a) in
    let m = both (apart c.event.fields.attendees) (apart c.one.wanted.attendees) l.0 in
    let w = both (accepted c.event c.one c.two) (accepted c.event c.two c.one) (so b) in
    let ev : Event c.event = record { fits = ok.0; apart_addresses = m.0 } in
    let one : Update c.one.wanted = record { fits = ok.1.0.1; apart_addresses = m.1 } in
    let two : Update c.two.wanted = record { fits = ok.1.1.1; apart_addresses = l.1 } in
    record {
      one = line_right c (party_one c) (party_two c) ok ev one two w.0;
      two = line_right c (party_two c) (party_one c) ok ev two one w.1;
    }

-- ---- what the buffers hold

record Told (call : Called) : Type 0 where
  one : Bytes
  two : Bytes
  is : two_clerks call.frame ≡ Answer.Lines one two
  takes_one : take call.told.one call.one' ≡ one
  takes_two : take call.told.two call.two' ≡ two

filled_starts : (x : Bytes) → take (length x) (filled x) ≡ x
unfolding filled
filled_starts x = take-append_seam x _

told_lines : (call : Called) → call.told.code ≡ 0 → Told call
unfolding asked returned when◌then◌else◌
told_lines call z = go (lengths_right call.one call.two call.work) (two_clerks call.frame) refl call.is
  where
    go : (r : Bool) (x : Answer) → two_clerks call.frame ≡ x
        → record { code = call.told.code; one_length = call.told.one; two_length = call.told.two; one = call.one'; two = call.two'; work = call.work' }
        ≡ (when r then returned x else record { code = 1; one_length = 0; two_length = 0; one = call.one; two = call.two; work = call.work })
        → Told call
    go false x e h = let k : call.told.code ≡ 1 = ap (λ (r : Returned). r.code) h in absurd (omega (arith, k, z))
    go true (Answer.Refused n) e h =
        let k : call.told.code ≡ n = ap (λ (r : Returned). r.code) h in
        let l = subst (λ (x : Answer). Coded x) e (coded call.frame) in
        absurd (omega (arith, l.0, k, z))
    go true (Answer.Lines a b) e h = record {
      one = a;
      two = b;
      is = e;
      takes_one = ap (λ (r : Returned). take r.one_length r.one) h ∙ filled_starts a;
      takes_two = ap (λ (r : Returned). take r.two_length r.two) h ∙ filled_starts b;
    }

pub every_call_names : EveryCallNames
every_call_names call z =
    let t = told_lines call z in
    let j = held_lines call.frame t.one t.two t.is in
    let x = (clerks_exact call.frame j.clerks).0 j.held in
    let r = right j.clerks x.0 j.apart_all j.accepted_both in
    record {
      clerks = j.clerks;
      fits = x.0;
      frame = x.1;
      one = subst (λ (s : Bytes). LineRight j.clerks (party_one j.clerks) (party_two j.clerks) s) (sym (t.takes_one ∙ j.one)) r.one;
      two = subst (λ (s : Bytes). LineRight j.clerks (party_two j.clerks) (party_one j.clerks) s) (sym (t.takes_two ∙ j.two)) r.two;
    }
