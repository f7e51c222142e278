-- What is proved of the definitions holds of lists of uses of the code: each answer is the definitions'. Assumes nothing.
use Rattle.std.specs.Prelude.{Option, Some, None, Result, Ok, Err}
use Prim.Native.Nat.{ℕ, ◌-◌, ◌≤◌, ◌<◌}
use native.Mathlib.Omega.{arith}
use mathlib.Core.Path.{◌≡◌, refl, ap, ap₂, ◌∙◌}
use mathlib.Core.List.{List, [], ◌∷◌, ◌++◌}
use mathlib.Core.Bool.{Bool, true, false, not}
use lib.ListN.{length, take, get_or, replicate, get_or-map}
use lib.Seq.{take-append-le, take_all}
use lib.Dec.{leb, T}
use Rattle.model.specs.Maps.{when◌then◌else◌, is_empty}
use Rattle.sender_turns.specs.Sender.{Call, Sender, Use, Answer, mills, calls, lane_size, fresh, lane, grant_all, with_lane, mill_of, take_use, used, sender_after, told_by, sender_over, told_over}
use Rattle.sender_turns.specs.Claims.{Waits, entered, entered_over, Settled}
use Rattle.sender_turns.specs.Laid.{lane_of, call_of, laid_out, numbered, one_told, told_as, Says}
use Rattle.sender_turns.specs.Uses.{Used, uses_of, Linked, left, told_in, told, count_in, waiting_in, entered_by, entered_in, EveryListOfUses}
use Rattle.sender_turns.specs.declared.Lane.{Lane}
use Rattle.sender_turns.specs.declared.Sender.{Sender as SenderStruct}
use Rattle.sender_turns.specs.declared.Call.{Call as CallStruct}
use Rattle.sender_turns.specs.declared.Refusal.{Refusal}
use Rattle.sender_turns.proofs.Settled.{fresh_settled, stays_settled, over_settled, one_grant, granted_at_once}
use Rattle.sender_turns.proofs.Fair.{fair_turns}
use Rattle.sender_turns.proofs.Order.{order_kept_over}

-- ---- a sender as the code holds it

lane_is : (mill : ℕ) (s : Sender) → get_or (laid_out s).lanes mill (lane_of []) ≡ lane_of (lane mill s.lanes)
unfolding laid_out lane
lane_is mill s = get_or-map lane_of s.lanes mill []

count_is : (mill : ℕ) (s : Sender) → count_in mill (laid_out s) ≡ length (lane mill s.lanes)
unfolding count_in lane_of
count_is mill s = ap (λ (l : Lane). l.count) (lane_is mill s)

waiting_is : (mill : ℕ) (s : Sender) → waiting_in mill (laid_out s) ≡ lane mill s.lanes
unfolding waiting_in lane_of
waiting_is mill s =
    let l : List ℕ = lane mill s.lanes in
    ap₂ (λ (n : ℕ) (x : Lane). take n x.numbers) (count_is mill s) (lane_is mill s)
    ∙ (take-append-le (length l) l (replicate (lane_size - length l) 0) (omega arith) ∙ take_all (length l) l (omega arith))

-- ---- an answer as the code gives it

-- an answer tells one grant, and a use has no more
as_told : (r : Result (Option CallStruct) Refusal) (a : Answer) → numbered r ≡ told_as a → length (told_by a) ≤ 1 → told_in r ≡ told_by a
unfolding told_in told_as told_by one_told call_of
as_told r (Answer.Refused n) e h = go r e
  where
    go : (r : Result (Option CallStruct) Refusal) → numbered r ≡ Err n → told_in r ≡ []
    go (Ok granted) e = cc
    go (Err x) e = refl
as_told r (Answer.Done t) e h = go r t.grants e h
  where
    go : (r : Result (Option CallStruct) Refusal) (l : List Call) → numbered r ≡ Ok (one_told l) → length l ≤ 1 → told_in r ≡ l
    go (Ok None) [] e h = refl
    go (Ok None) (c ∷ l) e h = cc
    go (Ok (Some call)) [] e h = cc
    go (Ok (Some call)) (c ∷ []) e h =
        let f : call ≡ call_of c = cc in
        rw f
    go (Ok (Some call)) (c ∷ d ∷ l) e h = absurd (omega arith)
    go (Err x) l e h = cc

-- what entered
as_entered : (mill : ℕ) (u : Use) (r : Result (Option CallStruct) Refusal) (a : Answer) → numbered r ≡ told_as a → entered_by mill u r ≡ entered mill u a
unfolding entered_by entered told_as when◌then◌else◌
as_entered mill (Use.Reply m n) r a e = refl
as_entered mill (Use.Resume m) r a e = refl
as_entered mill (Use.Enter m n) (Ok granted) (Answer.Done t) e = refl
as_entered mill (Use.Enter m n) (Err x) (Answer.Refused k) e = refl
as_entered mill (Use.Enter m n) (Ok granted) (Answer.Refused k) e = cc
as_entered mill (Use.Enter m n) (Err x) (Answer.Done t) e = cc

-- ---- a use, and lists of uses

module _ (s : Sender) (w : Settled s) (u : Used) (e : u.sender ≡ laid_out s) where
  use_is : Says s (used u.asked s) u.after u.answer
  use_is = u.is.is s w e

  use_tells : told_in u.answer ≡ told_by (used u.asked s)
  use_tells = as_told u.answer (used u.asked s) use_is.told (one_grant s w u.asked)

  use_enters : (mill : ℕ) → entered_by mill u.asked u.answer ≡ entered mill u.asked (used u.asked s)
  use_enters mill = as_entered mill u.asked u.answer (used u.asked s) use_is.told

record Same (s : Sender) (start : SenderStruct) (l : List Used) : Type 0 where
  leaves : left start l ≡ laid_out (sender_over s (uses_of l))
  tells : told l ≡ told_over s (uses_of l)
  enters : (mill : ℕ) → entered_in mill l ≡ entered_over mill s (uses_of l)

same : (l : List Used) (s : Sender) (start : SenderStruct) → Settled s → start ≡ laid_out s → Linked start l → Same s start l
unfolding Linked left told entered_in sender_over told_over entered_over
same [] s start w e k = record { leaves = e; tells = refl; enters = λ mill. refl }
same (u ∷ l) s start w e k =
    let here : u.sender ≡ laid_out s = k.0 ∙ e in
    let later = same l (sender_after s (used u.asked s)) u.after (stays_settled s w u.asked) (use_is s w u here).leaves k.1 in
    record {
      leaves = later.leaves;
      tells = ap₂ (λ (a b : List Call). a ++ b) (use_tells s w u here) later.tells;
      enters = λ mill. ap₂ (λ (a b : List ℕ). a ++ b) (use_enters s w u here mill) (later.enters mill);
    }

waits_is : (mill : ℕ) (s : Sender) → (count_in mill (laid_out s) ≡ 0 → ⊥) → Waits mill s
unfolding is_empty
waits_is mill s n = go (lane mill s.lanes) (λ e. n (count_is mill s ∙ e))
  where
    go : (l : List ℕ) → (length l ≡ 0 → ⊥) → T (not (is_empty l))
    go [] n = absurd (n refl)
    go (x ∷ l) n = tt

pub every_list_of_uses : EveryListOfUses
unfolding laid_out told told_by
every_list_of_uses start e before later k k' =
    let s : Sender = sender_over fresh (uses_of before) in
    let w : Settled s = over_settled (uses_of before) fresh fresh_settled in
    let at : left start before ≡ laid_out s = (same before fresh start fresh_settled e k).leaves in
    let after = same later s (left start before) w at k' in
    record {
      tells = after.tells;
      leaves = at;
      fair = λ mill low n r h. rw after.tells (fair_turns (uses_of before) (uses_of later) mill low (waits_is mill s (rw at at n)) r (rw after.tells at h));
      ordered = λ mill low r. rw (after.tells, after.leaves, at, waiting_is mill (sender_over s (uses_of later)), waiting_is mill s, after.enters)
          (order_kept_over (uses_of before) (uses_of later) mill low r);
      few = rw at w.within;
      none_possible = λ h mill. rw (at, count_is) (ap length (w.none_possible (λ g. absurd (omega (arith, ap (λ (x : SenderStruct). x.out) at))) mill));
      at_once = λ u f mill number low g h.
          let i : length s.out < calls = rw at at h in
          let one : told_in u.answer ≡ told_by (used u.asked s) = use_tells s w u (f ∙ at) in
          rw (one, g, granted_at_once s w mill number low i);
    }
