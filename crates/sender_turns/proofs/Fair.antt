-- A lane that waits gets a grant within the next eight: each grant to another mill brings its turn nearer. Assumes nothing.
use Rattle.std.specs.Prelude.{Option, Some, None}
use Prim.Native.Nat.{ℕ, zero, suc, ◌+◌, ◌-◌, ◌≤◌, ◌<◌}
use native.Mathlib.Omega.{arith}
use mathlib.Core.Path.{◌≡◌, refl}
use mathlib.Core.List.{List, [], ◌∷◌, ◌++◌}
use mathlib.Core.Bool.{Bool, true, false, not, ◌||◌}
use lib.ListN.{length, take, set}
use lib.Dec.{leb, eqb, eqb→eq, eqb_refl, T}
use Rattle.model.specs.Maps.{when◌then◌else◌, any, is_empty}
use Rattle.sender_turns.specs.Sender.{Call, Sender, Use, Told, Answer, mills, calls, lane_size, fresh, lane, after, next_mill, first_of, rest_of, granted, telling, grants, grant_all, same_call, freed, with_lane, with_out, mill_of, take_use, used, sender_after, told_by, sender_over, told_over}
use Rattle.sender_turns.specs.Claims.{resumes, for_mill, Waits, NoResume, Within, FairTurns, EightIsExact}
use Rattle.sender_turns.proofs.Turns.{Gap, Apart, Found, itself, before, found, gap_of, after_low, not_eq, lane_other, lane_same}
use Rattle.sender_turns.proofs.Settled.{fresh_settled, over_settled}

-- ---- tests

or_left : (a b : Bool) → T a → T (a || b)
or_left true b t = tt
or_left false b t = absurd t

or_right : (a b : Bool) → T b → T (a || b)
or_right true b t = tt
or_right false b t = t

or_cases : {P : Type 0} (a b : Bool) → T (a || b) → (T a → P) → (T b → P) → P
or_cases true b t f g = f tt
or_cases false b t f g = g t

not_both : (a : Bool) → T a → T (not a) → ⊥
not_both true t n = n
not_both false t n = t

pub quiet_head : (m : ℕ) (u : Use) (uses : List Use) → NoResume m (u ∷ uses) → T (not (resumes m u)) × NoResume m uses
unfolding any
quiet_head m u uses r = neither (resumes m u) (any (resumes m) uses) r
  where
    neither : (a b : Bool) → T (not (a || b)) → T (not a) × T (not b)
    neither true b t = absurd t
    neither false b t = (tt, t)

-- ---- the first so many calls

module _ (m : ℕ) where
  within_more : (i j : ℕ) (told : List Call) → i ≤ j → Within i m told → Within j m told
  unfolding any
  within_more zero j told p t = absurd t
  within_more (suc i) zero told p t = absurd (omega arith)
  within_more (suc i) (suc j) [] p t = t
  within_more (suc i) (suc j) (c ∷ told) p t = or_cases (for_mill m c) _ t
      (or_left (for_mill m c) (any (for_mill m) (take j told)))
      (λ u. or_right (for_mill m c) _ (within_more i j told (omega arith) u))

  within_front : (i : ℕ) (a b : List Call) → Within i m a → Within i m (a ++ b)
  unfolding any
  within_front zero a b t = t
  within_front (suc i) [] b t = absurd t
  within_front (suc i) (c ∷ a) b t = or_cases (for_mill m c) _ t
      (or_left (for_mill m c) (any (for_mill m) (take i (a ++ b))))
      (λ u. or_right (for_mill m c) _ (within_front i a b u))

  -- ---- the mill waits, and so many others may come before it

  record Near (d : ℕ) (s : Sender) : Type 0 where
    few : d < mills
    low : s.turn < mills
    gap : Gap s.turn m d
    waits : Waits m s

  -- what comes of grants: one was the mill's in time, or it waits and is nearer by as many as there were
  data Met (d : ℕ) (told : List Call) (s : Sender) : Type 0 where
    met : Within (suc d) m told → Met d told s
    nearer : (d' : ℕ) → d' + length told ≤ d → Near d' s → Met d told s

  none_yet : {d : ℕ} {s : Sender} → Near d s → Met d [] s
  none_yet {d} n = nearer d (omega arith) n

  one_more : (c : Call) (d d' : ℕ) {told : List Call} {s : Sender} → d' < d → Met d' told s → Met d (c ∷ told) s
  unfolding any
  one_more c d d' {told} l (met t) = met (or_right (for_mill m c) _ (within_more (suc d') d told (omega arith) t))
  one_more c d d' l (nearer e h n) = nearer e (omega arith) n

  more : (d d' : ℕ) (a : List Call) {b : List Call} {s : Sender} → d' + length a ≤ d → Met d' b s → Met d (a ++ b) s
  more d d' [] {b} l (met t) = met (within_more (suc d') (suc d) b (omega arith) t)
  more d d' [] l (nearer e h n) = nearer e (omega arith) n
  more zero d' (c ∷ a) l h = absurd (omega arith)
  more (suc d) d' (c ∷ a) l h = one_more c (suc d) d (omega arith) (more d d' a (omega arith) h)

  module _ (q : m < mills) where
    Granted : ℕ → Told → Type 0
    Granted d t = Met d t.grants t.sender

    grants_meet : (free d : ℕ) (s : Sender) → Near d s → Granted d (grants free s)
    unfolding grants telling any for_mill granted Granted
    grants_meet zero d s n = none_yet n
    grants_meet (suc free) d s n = go (next_mill mills s.turn s.lanes) (found m mills s.turn d s.lanes n.low q n.few n.gap n.waits) (grants_meet free)
      where
        go : (r : Option ℕ) → Found m d r → ((d : ℕ) (s : Sender) → Near d s → Granted d (grants free s))
            → Granted d (elim r as (λ r. Told) [
              | None ↦ record { grants = []; sender = s }
              | Some mill ↦ telling (mill, first_of (lane mill s.lanes)) (grants free (granted mill s))
            ])
        go (Some x) itself ih = met (or_left (eqb m m) _ (eqb_refl m))
        go (Some x) (before g d' there other near gap) ih = one_more (g, first_of (lane g s.lanes)) d d' near (ih d' (granted g s) (record {
          few = omega (arith, n.few);
          low = after_low g there;
          gap = gap;
          waits = rw (lane_other g m (rest_of (lane g s.lanes)) s.lanes other) n.waits;
        }))
        go None f ih = elim f [ ]

    all_meet : {d : ℕ} {s : Sender} → Near d s → Granted d (grant_all s)
    unfolding grant_all
    all_meet {d} {s} n = grants_meet (calls - length s.out) d s n

    -- a lane that changes still waits, if it is another's or what it is given is not empty
    put_near : (mill : ℕ) (l : List ℕ) {d : ℕ} {s : Sender} → Near d s → (mill ≡ m → T (not (is_empty l))) → Near d (with_lane mill l s)
    unfolding with_lane
    put_near mill l {s} n f = record { few = n.few; low = n.low; gap = n.gap; waits = go (eqb mill m) refl }
      where
        go : (c : Bool) → eqb mill m ≡ c → T (not (is_empty (lane m (set s.lanes mill l))))
        go false e = rw (lane_other mill m l s.lanes (not_eq mill m e)) n.waits
        go true e =
            let h : mill ≡ m = eqb→eq mill m (rw e tt) in
            rw (h, lane_same m l s.lanes n.waits) (f h)

    freed_near : (out : List Call) {d : ℕ} {s : Sender} → Near d s → Near d (with_out out s)
    unfolding with_out
    freed_near out n = record { few = n.few; low = n.low; gap = n.gap; waits = n.waits }

    snoc_waits : (l : List ℕ) (number : ℕ) → T (not (is_empty (l ++ number ∷ [])))
    unfolding is_empty
    snoc_waits [] number = tt
    snoc_waits (x ∷ l) number = tt

    -- what a use tells and leaves
    Answered : ℕ → Sender → Answer → Type 0
    Answered d s a = Met d (told_by a) (sender_after s a)

    taken_meets : (u : Use) (d : ℕ) (s : Sender) → T (not (resumes m u)) → Near d s → Answered d s (take_use u s)
    unfolding take_use told_by sender_after when◌then◌else◌ resumes Answered Granted
    taken_meets (Use.Enter mill number) d s r n = go (leb lane_size (length (lane mill s.lanes)))
      where
        go : (c : Bool) → Answered d s (when c then Answer.Refused 12 else Answer.Done (grant_all (with_lane mill (lane mill s.lanes ++ number ∷ []) s)))
        go true = none_yet n
        go false = all_meet (put_near mill _ n (λ e. snoc_waits (lane mill s.lanes) number))
    taken_meets (Use.Reply mill number) d s r n = all_meet (freed_near (freed (mill, number) s.out) n)
    taken_meets (Use.Resume mill) d s r n = all_meet (put_near mill [] n (λ e. absurd (not_both (eqb m mill) (rw e (eqb_refl m)) r)))

    use_meets : (u : Use) (d : ℕ) (s : Sender) → T (not (resumes m u)) → Near d s → Answered d s (used u s)
    unfolding used when◌then◌else◌ told_by sender_after Answered
    use_meets u d s r n = go (leb mills (mill_of u))
      where
        go : (c : Bool) → Answered d s (when c then Answer.Refused 11 else take_use u s)
        go true = none_yet n
        go false = taken_meets u d s r n

    uses_meet : (uses : List Use) (d : ℕ) (s : Sender) → NoResume m uses → Near d s → Met d (told_over s uses) (sender_over s uses)
    unfolding told_over sender_over any Answered
    uses_meet [] d s r n = none_yet n
    uses_meet (u ∷ uses) d s r n = go (use_meets u d s (quiet_head m u uses r).0 n) (uses_meet uses)
      where
        go : Answered d s (used u s) → ((d : ℕ) (s : Sender) → NoResume m uses → Near d s → Met d (told_over s uses) (sender_over s uses))
            → Met d (told_by (used u s) ++ told_over (sender_after s (used u s)) uses) (sender_over (sender_after s (used u s)) uses)
        go (met t) ih = met (within_front (suc d) (told_by (used u s)) _ t)
        go (nearer d' h n') ih = more d d' (told_by (used u s)) h (ih d' (sender_after s (used u s)) (quiet_head m u uses r).1 n')

-- from any sender whose turn is a mill's
pub fair_from : (s : Sender) (uses : List Use) (mill : ℕ) → s.turn < mills → mill < mills → Waits mill s → NoResume mill uses
    → mills ≤ length (told_over s uses) → Within mills mill (told_over s uses)
fair_from s uses m p q w r n =
    let a : Apart s.turn m = gap_of s.turn m p q in
    end a.d a.low (uses_meet m q uses a.d s r (record { few = a.low; low = p; gap = a.gap; waits = w }))
  where
    end : (d : ℕ) → d < mills → Met m d (told_over s uses) (sender_over s uses) → Within mills m (told_over s uses)
    end d l (met t) = within_more m (suc d) mills (told_over s uses) l t
    end d l (nearer d' h n') = absurd (omega arith)

pub fair_turns : FairTurns
fair_turns earlier uses mill q w r n = fair_from (sender_over fresh earlier) uses mill (over_settled earlier fresh fresh_settled).at q w r n

-- mill 0 waits behind its own four calls, and each of the others is asked before it is again
pub eight_is_exact : EightIsExact
unfolding fresh lane after next_mill first_of rest_of granted telling grants grant_all same_call freed with_lane with_out mill_of take_use used sender_after told_by sender_over told_over resumes for_mill when◌then◌else◌ any is_empty
eight_is_exact = record {
  before = Use.Enter 0 1 ∷ Use.Enter 0 2 ∷ Use.Enter 0 3 ∷ Use.Enter 0 4 ∷ Use.Enter 0 5
      ∷ Use.Enter 1 1 ∷ Use.Enter 2 1 ∷ Use.Enter 3 1 ∷ Use.Enter 4 1 ∷ Use.Enter 5 1 ∷ Use.Enter 6 1 ∷ Use.Enter 7 1 ∷ [];
  uses = Use.Reply 0 1 ∷ Use.Reply 0 2 ∷ Use.Reply 0 3 ∷ Use.Reply 0 4 ∷ Use.Reply 1 1 ∷ Use.Reply 2 1 ∷ Use.Reply 3 1 ∷ Use.Reply 4 1 ∷ [];
  mill = 0;
  there = omega arith;
  waits = tt;
  quiet = tt;
  told = refl;
  not_sooner = tt;
}
