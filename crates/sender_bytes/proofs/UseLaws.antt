-- What the exported functions cite: a buffer's sender is used as the definitions say, and a refusal leaves the buffer. Assumes nothing.
use Rattle.std.specs.Prelude.{Option, Some, None, Result, Ok, Err}
use Prim.Native.Nat.{ℕ, ◌<◌}
use native.Mathlib.Omega.{arith}
use mathlib.Core.Path.{◌≡◌, refl, sym, ap, ◌∙◌}
use mathlib.Core.Bool.{Bool, true, false}
use mathlib.Core.List.{List, []}
use lib.ListN.{length}
use lib.Dec.{leb, eqb, eqb→eq}
use borrow.Author.Tests.{eq-eqb, ne_eqb}
use Rattle.model.specs.Maps.{when◌then◌else◌}
use Rattle.model.specs.Machine.{match◌none:◌some:◌}
use Rattle.numbers.proofs.Laws.{Bytes}
use Rattle.sender_turns.specs.Sender.{Sender, Use, Told, Answer, mills, fresh, grant_all, with_lane, mill_of, take_use, used, sender_after}
use Rattle.sender_turns.specs.Claims.{Settled}
use Rattle.sender_turns.specs.Laid.{no_call, one_told, laid_out, told_as, Answers}
use Rattle.sender_turns.specs.Laid as turns
use Rattle.sender_turns.specs.declared.Call.{Call as CallStruct}
use Rattle.sender_turns.specs.declared.Sender.{Sender as SenderStruct}
use Rattle.sender_turns.specs.declared.Refusal.{Refusal as TurnsRefusal}
use Rattle.sender_turns.specs.declared.Refusal.TheVariants.{NoSuchMill, LaneFull}
use Rattle.sender_turns.proofs.Settled.{fresh_settled, stays_settled, idle_resume}
use Rattle.sender_bytes.specs.Bytes.{sender_length, sender_f, read_sender, Returned, grant_told, refused, returned, used_bytes, freshened}
use Rattle.sender_bytes.specs.Read.{sender_in, sender_out, IsSender, refusal, number_of, HeldIn, Granted, granted_by, Uses}
use Rattle.sender_bytes.specs.declared.Refusal.{Refusal}
use Rattle.sender_bytes.specs.declared.Refusal.TheVariants.{WrongLength, NoSender, Use as UseOf}
use Rattle.sender_bytes.proofs.StructLaws.{out_enc, read_yes, read_is}

-- ---- a fresh sender

pub fresh_sender : (x : SenderStruct) → x ≡ laid_out fresh → IsSender x
fresh_sender x e = record { sender = fresh; settled = fresh_settled; is = e }

pub fresh_short : (b : List ℕ) → (length b ≡ sender_length → ⊥) → (1, b) ≡ freshened b
unfolding freshened when◌then◌else◌
fresh_short b n = rw (ne_eqb (length b) sender_length n)

pub fresh_made : (b b' : List ℕ) → length b ≡ sender_length → (x : SenderStruct) → x ≡ laid_out fresh → b' ≡ sender_out x → (0, b') ≡ freshened b
unfolding freshened when◌then◌else◌
fresh_made b b' e x f w = rw (eq-eqb (length b) sender_length e, w, f, out_enc fresh fresh_settled)

-- ---- the sender that a buffer holds

pub held_short : (b : List ℕ) → (length b ≡ sender_length → ⊥) → HeldIn b (Err WrongLength)
unfolding refusal when◌then◌else◌
held_short b n = record { is = rw (ne_eqb (length b) sender_length n); sender = tt }

pub held_yes : (b : List ℕ) (x : SenderStruct) → length b ≡ sender_length → Bytes b → x ≡ sender_in b → IsSender x → HeldIn b (Ok x)
unfolding refusal when◌then◌else◌ match◌none:◌some:◌
held_yes b x e ok f w =
    let here : read_sender b ≡ Some w.sender = (read_yes b w.sender e ok w.settled (sym f ∙ w.is)).0 in
    record { is = rw (eq-eqb (length b) sender_length e, here); sender = λ s h. f ∙ (read_is b s h).1 }

pub held_no : (b : List ℕ) (x : SenderStruct) → length b ≡ sender_length → x ≡ sender_in b → (IsSender x → ⊥) → HeldIn b (Err NoSender)
unfolding refusal when◌then◌else◌ match◌none:◌some:◌
held_no b x e f n = record { is = rw (eq-eqb (length b) sender_length e) (go (read_sender b) refl); sender = tt }
  where
    go : (r : Option Sender) → read_sender b ≡ r → ◌≡◌ {A = ℕ} 2 (match r none: 2 some: (λ s. 0))
    go None h = refl
    go (Some s) h = absurd (n (record { sender = s; settled = (read_is b s h).0; is = f ∙ (read_is b s h).1 }))

-- a buffer that holds a sender
pub record Have (b : List ℕ) (x : SenderStruct) : Type 0 where
  pub s : Sender
  pub long : length b ≡ sender_length
  pub read : read_sender b ≡ Some s
  pub settled : Settled s
  pub is : x ≡ laid_out s

have : (b : List ℕ) (x : SenderStruct) → HeldIn b (Ok x) → Have b x
unfolding refusal when◌then◌else◌ match◌none:◌some:◌
have b x H = go (eqb (length b) sender_length) refl (read_sender b) refl H.is
  where
    go : (c : Bool) → eqb (length b) sender_length ≡ c → (r : Option Sender) → read_sender b ≡ r → ◌≡◌ {A = ℕ} 0 (when c then (match r none: 2 some: (λ s. 0)) else 1) → Have b x
    go false e r f g = absurd (omega (arith, g))
    go true e None f g = absurd (omega (arith, g))
    go true e (Some s) f g = record { s = s; long = eqb→eq (length b) sender_length (rw e tt); read = f; settled = (read_is b s f).0; is = H.sender s f }

-- ---- uses

-- where there is none, a use is refused for that
pub uses_unheld : (u : Use) (b : List ℕ) (e : Refusal) (r : Result (Option CallStruct) Refusal) → HeldIn b (Err e) → 0 < number_of e → r ≡ Err e → Uses u b b (granted_by r)
unfolding refusal used_bytes refused granted_by when◌then◌else◌ match◌none:◌some:◌
uses_unheld u b e r H n f = record { is = rw (f, H.is) (go (eqb (length b) sender_length) (read_sender b) (rw H.is at n)) }
  where
    go : (c : Bool) (r : Option Sender) → 0 < (when c then (match r none: 2 some: (λ s. 0)) else 1)
        → ◌≡◌ {A = Returned} (record { code = when c then (match r none: 2 some: (λ s. 0)) else 1; grant = (false, no_call); bytes = b })
        (when c then (match r none: refused 2 b some: (λ s. returned b (used u s))) else refused 1 b)
    go false r n = refl
    go true None n = refl
    go true (Some s) n = absurd (omega arith)

pub numbered_low : (e : Refusal) → 0 < number_of e
numbered_low WrongLength = omega arith
numbered_low NoSender = omega arith
numbered_low (UseOf NoSuchMill) = omega arith
numbered_low (UseOf LaneFull) = omega arith

pub long : (b : List ℕ) (x : SenderStruct) → HeldIn b (Ok x) → length b ≡ sender_length
long b x H = (have b x H).long

module _ (u : Use) (b : List ℕ) (x left : SenderStruct) (H : HeldIn b (Ok x)) where
  -- what a use leaves is a sender
  pub leaves : (r : Result (Option CallStruct) TurnsRefusal) → Answers u x left r → IsSender left
  leaves r A =
      let h = have b x H in
      record { sender = sender_after h.s (used u h.s); settled = stays_settled h.s h.settled u; is = (A.is h.s h.settled h.is).leaves }

  -- what the sender refuses leaves the buffer
  pub uses_refused : (e : TurnsRefusal) (r : Result (Option CallStruct) Refusal) → Answers u x left (Err e) → r ≡ Err (UseOf e) → Uses u b b (granted_by r)
  unfolding used_bytes when◌then◌else◌ match◌none:◌some:◌ returned refused told_as granted_by
  uses_refused e r A f =
      let h = have b x H in
      record { is = rw (f, eq-eqb (length b) sender_length h.long, h.read) (go (used u h.s) (A.is h.s h.settled h.is).told) }
    where
      go : (a : Answer) → Err (turns.number_of e) ≡ told_as a → ◌≡◌ {A = Returned} (record { code = turns.number_of e; grant = (false, no_call); bytes = b }) (returned b a)
      go (Answer.Refused n) t =
          let i : turns.number_of e ≡ n = cc in
          rw i
      go (Answer.Done d) t = cc

  pub uses_done : (granted : Option CallStruct) (b' : List ℕ) → Answers u x left (Ok granted) → b' ≡ sender_out left → Uses u b b' (granted_by (Ok granted))
  unfolding used_bytes when◌then◌else◌ match◌none:◌some:◌ returned refused told_as granted_by sender_after
  uses_done granted b' A w =
      let h = have b x H in
      let says = A.is h.s h.settled h.is in
      let enc : b' ≡ sender_f.enc (sender_after h.s (used u h.s)) = w ∙ ap sender_out says.leaves ∙ out_enc (sender_after h.s (used u h.s)) (stays_settled h.s h.settled u) in
      record { is = rw (enc, eq-eqb (length b) sender_length h.long, h.read) (go h.s (used u h.s) says.told) }
    where
      go : (s : Sender) (a : Answer) → Ok granted ≡ told_as a
          → ◌≡◌ {A = Returned} (record { code = 0; grant = grant_told granted; bytes = sender_f.enc (sender_after s a) }) (returned b a)
      go s (Answer.Refused n) t = cc
      go s (Answer.Done d) t =
          let i : granted ≡ one_told d.grants = cc in
          rw i

-- ---- a Resume grants nothing

resumed_none : (mill : ℕ) (s : Sender) (b : List ℕ) → Settled s → (returned b (used (Use.Resume mill) s)).grant ≡ grant_told None
unfolding used mill_of take_use when◌then◌else◌ returned refused one_told
resumed_none mill s b w = go (leb mills mill)
  where
    go : (c : Bool) → (returned b (when c then Answer.Refused 11 else Answer.Done (grant_all (with_lane mill [] s)))).grant ≡ grant_told None
    go true = refl
    go false = ap (λ (t : Told). grant_told (one_told t.grants)) (idle_resume s mill w)

resume_grant : (mill : ℕ) (b : List ℕ) → (used_bytes (Use.Resume mill) b).grant ≡ grant_told None
unfolding used_bytes when◌then◌else◌ match◌none:◌some:◌ refused
resume_grant mill b = go (eqb (length b) sender_length) (read_sender b) refl
  where
    go : (c : Bool) (r : Option Sender) → read_sender b ≡ r
        → (when c then (match r none: refused 2 b some: (λ s. returned b (used (Use.Resume mill) s))) else refused 1 b).grant ≡ grant_told None
    go false r e = refl
    go true None e = refl
    go true (Some s) e = resumed_none mill s b (read_is b s e).0

pub resume_none : (mill : ℕ) (b b' : List ℕ) (r : Granted) → Uses (Use.Resume mill) b b' r → Uses (Use.Resume mill) b b' (record { code = r.code; granted = false; call = no_call })
resume_none mill b b' r u = record {
  is = ap (λ (g : Bool × CallStruct). record { code = r.code; grant = g; bytes = b' }) (sym (ap (λ (x : Returned). x.grant) u.is ∙ resume_grant mill b)) ∙ u.is;
}
