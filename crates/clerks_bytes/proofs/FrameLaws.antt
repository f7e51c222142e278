-- Laws of the frame's places: the bytes from a place on, where a frame ends, and what is read of a whole frame. Assumes nothing.
use Rattle.std.specs.Prelude.{Some, None}
use Prim.Native.Nat.{ℕ, ◌+◌, ◌-◌, ◌≤◌, ◌<◌}
use native.Mathlib.Omega.{arith}
use mathlib.Core.Path.{◌≡◌, refl, sym, ap, ◌∙◌}
use mathlib.Core.List.{List, [], ◌∷◌}
use mathlib.Core.Bool.{true, false, not}
use lib.Dec.{eqb}
use lib.ListN.{length, drop, length-append, drop_of_length-le}
use borrow.Author.Tests.{eq-eqb, ne_eqb, not-true, not-false}
use Rattle.format.specs.Format.{Got, Format, ◌⊗◌, whole_in, whole_of}
use Rattle.model.specs.Formats.{fields_f, event_f, role_f}
use Rattle.model.proofs.FormatsLaws.{role_f_law, event_f_law}
use Rattle.frame.specs.Read.{skips, start, stepped}
use Rattle.frame.specs.declared.Cursor.{Cursor}
use Rattle.frame.proofs.Steps.{skips_pair, skips_via}
use Rattle.merge.specs.Given.{Begins}
use Rattle.merge.proofs.Stood.{Stood, stood_start, stood_first, stood_second, stood_via}
use Rattle.clerks_model.specs.Frame.{party_to, party_from, clerks_to, clerks_from, party_f, clerks_f}
use Rattle.clerks_model.specs.Frame as model
use Rattle.clerks_model.proofs.Frames.{party_f_law, clerks_f_law}
use Rattle.clerks_bytes.specs.Frames.{ends_at, Stands, Holds, Read, Reads}
use Rattle.clerks_bytes.specs.declared.frames.Party.{Party}
use Rattle.clerks_bytes.specs.declared.frames.Clerks.{Clerks}
use Rattle.clerks_bytes.specs.declared.frames.PartyRead.{PartyRead}

-- ---- the bytes from a place on

pub from_past : (s : List ℕ) (at : ℕ) → length s < at → [] ≡ drop at s
from_past s at h = sym (drop_of_length-le s (let k : length s ≤ at = omega arith in k))

-- ---- where a frame ends

module _ (s : List ℕ) (c : Cursor) where
  pub ends_stopped : not c.ok ≡ true → false ≡ ends_at s c
  unfolding ends_at
  ends_stopped h = rw (not-true c.ok h)

  pub ends_there : not c.ok ≡ false → eqb c.at (length s) ≡ ends_at s c
  unfolding ends_at
  ends_there h = rw (not-false c.ok h)

-- ---- a party

abbrev pub party_at : ℕ → List ℕ → Cursor → Party
party_at n s c = record { number = n; role = c.at; wanted = (skips role_f s c).at }

abbrev pub after_party : List ℕ → Cursor → Cursor
after_party s c = skips fields_f s (skips role_f s c)

abbrev pub party_read : ℕ → List ℕ → Cursor → PartyRead
party_read n s c = record { party = party_at n s c; next = after_party s c }

pub party_is : (n : ℕ) (s : List ℕ) (c : Cursor) {q next : Cursor} → q ≡ skips role_f s c → next ≡ skips fields_f s q
    → ◌≡◌ {A = PartyRead} (record { party = record { number = n; role = c.at; wanted = q.at }; next = next }) (party_read n s c)
party_is n s c {q} {next} e f =
    ap (λ (next : Cursor). record { party = record { number = n; role = c.at; wanted = q.at }; next = next }) f
    ∙ ap (λ (q : Cursor). record { party = record { number = n; role = c.at; wanted = q.at }; next = skips fields_f s q }) e

party_chain : (s : List ℕ) (c : Cursor) → skips party_f s c ≡ after_party s c
unfolding party_f
party_chain s c = skips_via _ _ _ s c ∙ skips_pair role_f_law s fields_f c

-- ---- a whole frame

module _ (s : List ℕ) where
  abbrev first_place : Cursor
  first_place = skips event_f s start

  clerks_chain : skips clerks_f s start ≡ after_party s (after_party s first_place)
  unfolding clerks_f
  clerks_chain =
      skips_via _ _ _ s start ∙ (skips_pair event_f_law s (party_f ⊗ party_f) start ∙ (skips_pair party_f_law s party_f first_place
      ∙ (party_chain s (skips party_f s first_place) ∙ ap (after_party s) (party_chain s first_place))))

begins : {A : Type 0} {f : Format A} {s : List ℕ} {c : Cursor} {v : A} → Stood f s c v → Begins f (drop c.at s) v
begins S = record { fits = S.fine; rest = S.tail; bytes = S.is }

party_stands : (n : ℕ) {s : List ℕ} {c : Cursor} {x : model.Party} → Stood party_f s c x → Stands s (party_at n s c) (record { number = n; party = x })
unfolding party_f
party_stands n {s} {c} {x} S =
    let T : Stood (role_f ⊗ fields_f) s c (party_from x) = stood_via party_to party_from (role_f ⊗ fields_f) S in
    record { number = refl; role = begins (stood_first role_f fields_f role_f_law T); wanted = begins (stood_second role_f fields_f role_f_law T) }

module _ (s : List ℕ) (v : model.Clerks) (B : Begins clerks_f s v) where
  parts : Stood (event_f ⊗ party_f ⊗ party_f) s start (clerks_from v)
  unfolding clerks_f
  parts = stood_via clerks_to clerks_from (event_f ⊗ party_f ⊗ party_f) (stood_start B)

  parties : Stood (party_f ⊗ party_f) s (first_place s) (v.one, v.two)
  parties = stood_second event_f (party_f ⊗ party_f) event_f_law parts

  holds : (c : Clerks) → c.one ≡ party_at 1 s (first_place s) → c.two ≡ party_at 2 s (after_party s (first_place s)) → Holds s c v
  holds c e f = record {
    event = begins (stood_first event_f (party_f ⊗ party_f) event_f_law parts);
    one = rw e (party_stands 1 (stood_first party_f party_f party_f_law parties));
    two = rw (f, ← party_chain s (first_place s)) (party_stands 2 (stood_second party_f party_f party_f_law parties));
  }

module _ (s : List ℕ) (c : Clerks) {event : Cursor} {first second : PartyRead} (front : event ≡ skips event_f s start) (one : first ≡ party_read 1 s event)
    (two : second ≡ party_read 2 s first.next) (ok : c.ok ≡ ends_at s second.next) (is_one : c.one ≡ first.party) (is-two : c.two ≡ second.party) where
  first_is : first ≡ party_read 1 s (first_place s)
  first_is = one ∙ ap (λ (c : Cursor). party_read 1 s c) front

  ok_is : c.ok ≡ ends_at s (skips clerks_f s start)
  ok_is = ok ∙ ap (ends_at s) (ap (λ (r : PartyRead). r.next) two ∙ (ap (λ (r : PartyRead). after_party s r.next) first_is ∙ sym (clerks_chain s)))

  one_is : c.one ≡ party_at 1 s (first_place s)
  one_is = is_one ∙ ap (λ (r : PartyRead). r.party) first_is

  two_is : c.two ≡ party_at 2 s (after_party s (first_place s))
  two_is = is-two ∙ (ap (λ (r : PartyRead). r.party) two ∙ ap (λ (r : PartyRead). party_at 2 s r.next) first_is)

  pub clerks_read : Reads s c
  unfolding whole_of skips ends_at
  clerks_read = go (clerks_f.dec s) refl
    where
      at : {x : Got model.Clerks} → clerks_f.dec s ≡ x → c.ok ≡ ends_at s (stepped s x)
      at e = ok_is ∙ ap (λ (x : Got model.Clerks). ends_at s (stepped s x)) e

      go : (x : Got model.Clerks) → clerks_f.dec s ≡ x → Read s c (whole_in x)
      go None e = at e
      go (Some (v, [])) e =
          let r = clerks_f_law.reads s (v, []) e in
          let l : length s - 0 ≡ length s = omega arith in
          (at e ∙ eq-eqb (length s - 0) (length s) l, holds s v (record { fits = r.1; rest = []; bytes = r.0 }) c one_is two_is)
      go (Some (v, b ∷ t)) e =
          let l : length s ≡ length (clerks_f.enc v) + length (b ∷ t) = ap length (clerks_f_law.reads s (v, b ∷ t) e).0 ∙ length-append (clerks_f.enc v) (b ∷ t) in
          at e ∙ ne_eqb (length s - length (b ∷ t)) (length s) (λ k. omega arith)
