-- The theorems of specs/Calls.antt: what is proved of the definitions holds of calls over bytes, as each call reads and leaves a sender's bytes. Assumes nothing.
use Rattle.std.specs.Prelude.{Some}
use Prim.Native.Nat.{ℕ, ◌^◌, ◌≤◌}
use native.Mathlib.Omega.{arith}
use mathlib.Core.Path.{◌≡◌, refl, ap, ap₂, ◌∙◌}
use mathlib.Core.Logic.{◌⊎◌, inl, inr}
use mathlib.Core.Bool.{Bool, true, false}
use mathlib.Core.List.{List, [], ◌∷◌, ◌++◌}
use lib.ListN.{length}
use lib.Dec.{leb}
use borrow.Author.Tests.{eq-eqb}
use Rattle.format.specs.Format.{All}
use Rattle.format.proofs.WholeLaws.{whole_enc, whole_dec}
use Rattle.model.specs.Maps.{when◌then◌else◌}
use Rattle.model.specs.Machine.{match◌none:◌some:◌}
use Rattle.model.proofs.Fitting.{all_append}
use Rattle.sender_turns.specs.Sender.{Call, Sender, Use, Answer, mills, lane_size, fresh, lane, grant_all, with_lane, mill_of, take_use, used, sender_after, told_by, sender_over, told_over}
use Rattle.sender_turns.specs.Claims.{carried, Reached, SettledIsReached}
use Rattle.sender_turns.specs.Laid.{call_of, one_told}
use Rattle.sender_turns.specs.declared.Call.{Call as CallStruct}
use Rattle.sender_turns.proofs.Theorems.{fresh_settled, stays_settled, one_grant, settled_is_reached, fair_turns, order_kept_over}
use Rattle.sender_turns.proofs.Numbered.{used_numbered, fresh_numbered}
use Rattle.sender_bytes.specs.Bytes.{grant_told, number_bytes, sender_length, sender_f, read_sender, Returned, refused, returned, used_bytes}
use Rattle.sender_bytes.specs.Calls.{SendersExact, SendersLong, Called, uses_of, Linked, left, told, Answered, sender_by, EveryListOfCalls}
use Rattle.sender_bytes.proofs.BytesLaws.{Fit, sender_f_law, sender_long as ok-long, ok_settled, ok_numbered, settled_ok}

-- ---- which bytes are a sender's

reaching : (s : Sender) → SettledIsReached (256 ^ number_bytes) s
reaching = settled_is_reached (256 ^ number_bytes) (omega arith)

-- uses lead to a sender exactly where the format allows it
ok_reached : (s : Sender) → sender_f.Ok s → Reached (256 ^ number_bytes) s
ok_reached s ok = (reaching s).reached (ok_settled s ok) (ok_numbered s ok)

reached_ok : (s : Sender) → Reached (256 ^ number_bytes) s → sender_f.Ok s
reached_ok s r =
    let w = (reaching s).settled r in
    settled_ok s w.0 w.1

pub senders_exact : (b : List ℕ) (s : Sender) → SendersExact b s
unfolding read_sender
senders_exact b s = record {
  is = (
    λ e. let w = whole_enc sender_f_law b s e in (ok_reached s w.0, w.1),
    λ p. whole_dec sender_f_law b s (reached_ok s p.0) p.1,
  );
}

pub sender_long : SendersLong
sender_long s r = ok-long s (reached_ok s r)

-- ---- a use of a sender's bytes

fresh_ok : sender_f.Ok fresh
fresh_ok = settled_ok fresh fresh_settled (fresh_numbered (256 ^ number_bytes))

-- the sender after a use is allowed again
stays_ok : (s : Sender) → sender_f.Ok s → (u : Use) → All Fit (carried u) → sender_f.Ok (sender_after s (used u s))
stays_ok s ok u g =
    settled_ok (sender_after s (used u s)) (stays_settled s (ok_settled s ok) u) (used_numbered (256 ^ number_bytes) s u (ok_numbered s ok) g)

read_back : (s : Sender) → sender_f.Ok s → read_sender (sender_f.enc s) ≡ Some s
unfolding read_sender
read_back s ok = whole_dec sender_f_law (sender_f.enc s) s ok refl

used_is : (u : Use) (s : Sender) → sender_f.Ok s → used_bytes u (sender_f.enc s) ≡ returned (sender_f.enc s) (used u s)
unfolding used_bytes when◌then◌else◌ match◌none:◌some:◌
used_is u s ok = rw (eq-eqb (length (sender_f.enc s)) sender_length (ok-long s ok), read_back s ok)

-- ---- what it returns

bytes_of : (s : Sender) (a : Answer) → (returned (sender_f.enc s) a).bytes ≡ sender_f.enc (sender_after s a)
unfolding returned refused sender_after
bytes_of s (Answer.Refused n) = refl
bytes_of s (Answer.Done t) = refl

-- the grant that is told
told_in : Bool × CallStruct → List Call
told_in g = when g.0 then (g.1.mill, g.1.number) ∷ [] else []

-- one grant is told, and a use has no more
grant_of : (b : List ℕ) (a : Answer) → length (told_by a) ≤ 1 → told_in (returned b a).grant ≡ told_by a
unfolding told_in told_by returned refused one_told call_of when◌then◌else◌
grant_of b (Answer.Refused n) h = refl
grant_of b (Answer.Done t) h = go t.grants h
  where
    go : (l : List Call) → length l ≤ 1 → told_in (grant_told (one_told l)) ≡ l
    go [] h = refl
    go (c ∷ []) h = refl
    go (c ∷ d ∷ l) h = absurd (omega arith)

Code : ℕ → Type 0
Code n = (n ≡ 0) ⊎ ((n ≡ 11) ⊎ (n ≡ 12))

code_of : (b : List ℕ) (u : Use) (s : Sender) → Code (returned b (used u s)).code
unfolding Code returned refused used take_use mill_of when◌then◌else◌
code_of b u s = elim (leb mills (mill_of u)) as (λ c. Code (returned b (when c then Answer.Refused 11 else take_use u s)).code) [ true ↦ inr (inl refl) | false ↦ taken u ]
  where
    taken : (u : Use) → Code (returned b (take_use u s)).code
    taken (Use.Enter mill number) =
        elim (leb lane_size (length (lane mill s.lanes)))
        as (λ c. Code (returned b (when c then Answer.Refused 12 else Answer.Done (grant_all (with_lane mill (lane mill s.lanes ++ number ∷ []) s)))).code)
        [ true ↦ inr (inr refl) | false ↦ inl refl ]
    taken (Use.Reply mill number) = inl refl
    taken (Use.Resume mill) = inl refl

-- ---- a call, and lists of calls

module _ (s : Sender) (ok : sender_f.Ok s) (c : Called) (e : c.before ≡ sender_f.enc s) where
  call_is : record { code = c.answer.code; grant = (c.answer.granted, c.answer.call); bytes = c.after } ≡ returned (sender_f.enc s) (used c.asked s)
  call_is = c.is.is ∙ ap (used_bytes c.asked) e ∙ used_is c.asked s ok

  call_leaves : c.after ≡ sender_f.enc (sender_after s (used c.asked s))
  call_leaves = ap (λ (r : Returned). r.bytes) call_is ∙ bytes_of s (used c.asked s)

  call_tells : told_in (c.answer.granted, c.answer.call) ≡ told_by (used c.asked s)
  call_tells =
      ap (λ (r : Returned). told_in r.grant) call_is ∙ grant_of (sender_f.enc s) (used c.asked s) (one_grant s (ok_settled s ok) c.asked)

  call_answered : Answered c
  unfolding Code
  call_answered = rw (ap (λ (r : Returned). r.code) call_is) (code_of (sender_f.enc s) c.asked s)

record Same (s : Sender) (start : List ℕ) (l : List Called) : Type 0 where
  ok : sender_f.Ok (sender_over s (uses_of l))
  leaves : left start l ≡ sender_f.enc (sender_over s (uses_of l))
  tells : told l ≡ told_over s (uses_of l)
  answered : All Answered l

same : (l : List Called) (s : Sender) (start : List ℕ) → sender_f.Ok s → start ≡ sender_f.enc s → Linked start l → Same s start l
unfolding Linked left told sender_over told_over told_in
same [] s start ok e k = record { ok = ok; leaves = e; tells = refl; answered = tt }
same (c ∷ l) s start ok e k =
    let here : c.before ≡ sender_f.enc s = k.0 ∙ e in
    let later = same l (sender_after s (used c.asked s)) c.after (stays_ok s ok c.asked c.given) (call_leaves s ok c here) k.1 in
    record {
      ok = later.ok;
      leaves = later.leaves;
      tells = ap₂ (λ (a b : List Call). a ++ b) (call_tells s ok c here) later.tells;
      answered = (call_answered s ok c here, later.answered);
    }

pub every_list_of_calls : EveryListOfCalls
every_list_of_calls start e before later k k' =
    let first = same before fresh start fresh_ok e k in
    let next = same later (sender_by before) (left start before) first.ok first.leaves k' in
    record {
      tells = next.tells;
      leaves = first.leaves;
      reads = ap read_sender first.leaves ∙ read_back (sender_by before) first.ok;
      answered = all_append Answered before later first.answered next.answered;
      fair = λ mill low w r h. rw next.tells (fair_turns (uses_of before) (uses_of later) mill low w r (rw next.tells at h));
      ordered = λ mill low r. rw next.tells (order_kept_over (uses_of before) (uses_of later) mill low r);
    }
