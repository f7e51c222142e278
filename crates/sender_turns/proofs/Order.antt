-- A mill is granted its requests in the order in which they entered, and a mill alone may have all four calls. Assumes nothing.
use Rattle.std.specs.Prelude.{Option, Some, None}
use Prim.Native.Nat.{ℕ, zero, suc, ◌-◌, ◌≤◌, ◌<◌}
use native.Mathlib.Omega.{arith}
use mathlib.Core.Path.{◌≡◌, refl, sym, ap, ◌∙◌}
use mathlib.Core.List.{List, [], ◌∷◌, ◌++◌, append_assoc, append-nil}
use mathlib.Core.Bool.{Bool, true, false, not}
use lib.ListN.{length, set}
use lib.Dec.{leb, leb→le, eqb, eqb→eq, T}
use Rattle.model.specs.Maps.{when◌then◌else◌, filter_map, is_empty}
use Rattle.sender_turns.specs.Sender.{Call, Sender, Use, Told, Answer, mills, calls, lane_size, fresh, lane, after, next_mill, first_of, rest_of, granted, telling, grants, grant_all, freed, with_lane, with_out, mill_of, take_use, used, sender_after, told_by, sender_over, told_over}
use Rattle.sender_turns.specs.Claims.{resumes, for_mill, NoResume, entered, left_of, numbers_of, entered_over, Settled, OrderKept, OrderKeptOver, AloneAllFour}
use Rattle.sender_turns.proofs.Turns.{Waiting, not_eq, lane_other, lane_same, set_if, whole, next_waits}
use Rattle.sender_turns.proofs.Settled.{stays_settled, fresh_settled, over_settled}
use Rattle.sender_turns.proofs.Fair.{quiet_head}

-- ---- the numbers of a mill's calls

-- a call's number, if it is the mill's, before the others
kept : Option ℕ → List ℕ → List ℕ
kept o l = elim o as (λ o. List ℕ) [ None ↦ l | Some n ↦ n ∷ l ]

kept_append : (o : Option ℕ) (l r : List ℕ) → kept o l ++ r ≡ kept o (l ++ r)
unfolding kept
kept_append None l r = refl
kept_append (Some n) l r = refl

numbers_if : (mill g n : ℕ) (told : List Call) (c : Bool) → eqb mill g ≡ c
    → numbers_of mill ((g, n) ∷ told) ≡ (when c then n ∷ numbers_of mill told else numbers_of mill told)
unfolding numbers_of filter_map when◌then◌else◌ for_mill kept
numbers_if mill g n told true e = ap (λ (c : Bool). kept (when c then Some n else None) (numbers_of mill told)) e
numbers_if mill g n told false e = ap (λ (c : Bool). kept (when c then Some n else None) (numbers_of mill told)) e

numbers_append : (mill : ℕ) (a b : List Call) → numbers_of mill (a ++ b) ≡ numbers_of mill a ++ numbers_of mill b
unfolding numbers_of filter_map kept
numbers_append mill [] b = refl
numbers_append mill (c ∷ a) b =
    let o : Option ℕ = when for_mill mill c then Some c.1 else None in
    ap (kept o) (numbers_append mill a b) ∙ sym (kept_append o (numbers_of mill a) (numbers_of mill b))

-- ---- grants take a lane's requests from its front

one_order : (s : Sender) (g mill : ℕ) (t : Told) → Waiting g s.lanes → numbers_of mill t.grants ++ lane mill t.sender.lanes ≡ lane mill (granted g s).lanes
    → numbers_of mill ((g, first_of (lane g s.lanes)) ∷ t.grants) ++ lane mill t.sender.lanes ≡ lane mill s.lanes
unfolding granted when◌then◌else◌
one_order s g mill t w later = go (eqb mill g) refl
  where
    go : (c : Bool) → eqb mill g ≡ c → numbers_of mill ((g, first_of (lane g s.lanes)) ∷ t.grants) ++ lane mill t.sender.lanes ≡ lane mill s.lanes
    go true e =
        let h : mill ≡ g = eqb→eq mill g (rw e tt) in
        rw (numbers_if mill g (first_of (lane g s.lanes)) t.grants true e, later, h, lane_same g (rest_of (lane g s.lanes)) s.lanes w) (whole (lane g s.lanes) w)
    go false e = rw (numbers_if mill g (first_of (lane g s.lanes)) t.grants false e)
        (later ∙ lane_other g mill (rest_of (lane g s.lanes)) s.lanes (λ h. not_eq mill g e (sym h)))

grants_order : (free : ℕ) (s : Sender) (mill : ℕ) → numbers_of mill (grants free s).grants ++ lane mill (grants free s).sender.lanes ≡ lane mill s.lanes
unfolding grants telling numbers_of filter_map
grants_order zero s mill = refl
grants_order (suc free) s mill = go (next_mill mills s.turn s.lanes) (next_waits mills s.turn s.lanes) (grants_order free)
  where
    Kept : Told → Type 0
    Kept t = numbers_of mill t.grants ++ lane mill t.sender.lanes ≡ lane mill s.lanes

    go : (r : Option ℕ) → ((g : ℕ) → r ≡ Some g → Waiting g s.lanes)
        → ((s : Sender) (mill : ℕ) → numbers_of mill (grants free s).grants ++ lane mill (grants free s).sender.lanes ≡ lane mill s.lanes)
        → Kept (elim r as (λ r. Told) [
          | None ↦ record { grants = []; sender = s }
          | Some mill ↦ telling (mill, first_of (lane mill s.lanes)) (grants free (granted mill s))
        ])
    go None f ih = refl
    go (Some g) f ih = one_order s g mill (grants free (granted g s)) (f g refl) (ih (granted g s) mill)

-- ---- a use

module _ (s : Sender) (mill : ℕ) (low : mill < mills) (eight : length s.lanes ≡ mills) where
  Order : Use → Answer → Type 0
  Order u a = numbers_of mill (told_by a) ++ lane mill (sender_after s a).lanes ≡ left_of mill u (lane mill s.lanes) ++ entered mill u a

  -- the grants begin with what the use left of the lane and what entered
  done_order : (u : Use) (s' : Sender) → lane mill s'.lanes ≡ left_of mill u (lane mill s.lanes) ++ entered mill u (Answer.Done (grant_all s'))
      → Order u (Answer.Done (grant_all s'))
  unfolding Order grant_all told_by sender_after
  done_order u s' e = grants_order (calls - length s'.out) s' mill ∙ e

  put_order : (m : ℕ) (l : List ℕ) → lane mill (set s.lanes m l) ≡ (when eqb mill m then l else lane mill s.lanes)
  put_order m l = set_if mill m l s.lanes (omega arith) (eqb mill m) refl

  enter_order : (m n : ℕ) → Order (Use.Enter m n) (take_use (Use.Enter m n) s)
  unfolding Order take_use when◌then◌else◌ with_lane left_of entered numbers_of filter_map told_by sender_after
  enter_order m n = go (leb lane_size (length (lane m s.lanes)))
    where
      behind : (c : Bool) → eqb mill m ≡ c → (when c then lane m s.lanes ++ n ∷ [] else lane mill s.lanes) ≡ lane mill s.lanes ++ (when c then n ∷ [] else [])
      behind true e = ap (λ (k : ℕ). lane k s.lanes ++ n ∷ []) (sym (eqb→eq mill m (rw e tt)))
      behind false e = sym (append-nil (lane mill s.lanes))

      go : (c : Bool) → Order (Use.Enter m n) (when c then Answer.Refused 12 else Answer.Done (grant_all (with_lane m (lane m s.lanes ++ n ∷ []) s)))
      go true = sym (append-nil (lane mill s.lanes))
      go false = done_order (Use.Enter m n) (with_lane m (lane m s.lanes ++ n ∷ []) s) (put_order m (lane m s.lanes ++ n ∷ []) ∙ behind (eqb mill m) refl)

  taken_order : (u : Use) → Order u (take_use u s)
  unfolding take_use with_lane with_out left_of entered
  taken_order (Use.Enter m n) = enter_order m n
  taken_order (Use.Reply m n) = done_order (Use.Reply m n) (with_out (freed (m, n) s.out) s) (sym (append-nil (lane mill s.lanes)))
  taken_order (Use.Resume m) = done_order (Use.Resume m) (with_lane m [] s) (put_order m [] ∙ sym (append-nil (when eqb mill m then [] else lane mill s.lanes)))

  -- a use of a mill that is not there leaves every lane
  refused_order : (u : Use) → mills ≤ mill_of u → Order u (Answer.Refused 11)
  unfolding Order told_by sender_after mill_of left_of entered numbers_of filter_map when◌then◌else◌
  refused_order (Use.Enter m n) h = sym (append-nil (lane mill s.lanes))
  refused_order (Use.Reply m n) h = sym (append-nil (lane mill s.lanes))
  refused_order (Use.Resume m) h = go (eqb mill m) refl
    where
      go : (c : Bool) → eqb mill m ≡ c → lane mill s.lanes ≡ (when c then [] else lane mill s.lanes) ++ []
      go true e = absurd (omega (arith, eqb→eq mill m (rw e tt)))
      go false e = sym (append-nil (lane mill s.lanes))

  used_order : (u : Use) → Order u (used u s)
  unfolding used when◌then◌else◌
  used_order u = go (leb mills (mill_of u)) refl
    where
      go : (c : Bool) → leb mills (mill_of u) ≡ c → Order u (when c then Answer.Refused 11 else take_use u s)
      go true e = refused_order u (leb→le mills (mill_of u) (rw e tt))
      go false e = taken_order u

pub order_kept : OrderKept
unfolding Order
order_kept s u mill low eight = used_order s mill low eight u

-- ---- lists of uses

left_whole : (mill : ℕ) (u : Use) (l : List ℕ) → T (not (resumes mill u)) → left_of mill u l ≡ l
unfolding left_of resumes when◌then◌else◌
left_whole mill (Use.Enter m n) l r = refl
left_whole mill (Use.Reply m n) l r = refl
left_whole mill (Use.Resume m) l r = go (eqb mill m) r
  where
    go : (c : Bool) → T (not c) → (when c then [] else l) ≡ l
    go true r = absurd r
    go false r = refl

use_order : (s : Sender) (u : Use) (mill : ℕ) → Settled s → mill < mills → T (not (resumes mill u))
    → numbers_of mill (told_by (used u s)) ++ lane mill (sender_after s (used u s)).lanes ≡ lane mill s.lanes ++ entered mill u (used u s)
use_order s u mill w low r = order_kept s u mill low w.eight ∙ rw (left_whole mill u (lane mill s.lanes) r)

order_from : (uses : List Use) (s : Sender) (mill : ℕ) → Settled s → mill < mills → NoResume mill uses
    → numbers_of mill (told_over s uses) ++ lane mill (sender_over s uses).lanes ≡ lane mill s.lanes ++ entered_over mill s uses
unfolding told_over sender_over entered_over numbers_of filter_map
order_from [] s mill w low r = sym (append-nil (lane mill s.lanes))
order_from (u ∷ uses) s mill w low r =
    let a : Answer = used u s in
    let s' : Sender = sender_after s a in
    let quiet = quiet_head mill u uses r in
    let first = use_order s u mill w low quiet.0 in
    let later = order_from uses s' mill (stays_settled s w u) low quiet.1 in
    rw (
      numbers_append mill (told_by a) (told_over s' uses),
      append_assoc (numbers_of mill (told_by a)) (numbers_of mill (told_over s' uses)) (lane mill (sender_over s' uses).lanes),
      later,
      ← append_assoc (numbers_of mill (told_by a)) (lane mill s'.lanes) (entered_over mill s' uses),
      first,
    )
    (append_assoc (lane mill s.lanes) (entered mill u a) (entered_over mill s' uses))

pub order_kept_over : OrderKeptOver
order_kept_over earlier uses mill low r = order_from uses (sender_over fresh earlier) mill (over_settled earlier fresh fresh_settled) low r

-- ---- a mill alone

pub alone_all_four : AloneAllFour
unfolding told_over told_by used take_use grant_all grants next_mill lane granted telling first_of rest_of after with_lane sender_after when◌then◌else◌ is_empty fresh mill_of
alone_all_four zero p a b c d = refl
alone_all_four (suc zero) p a b c d = refl
alone_all_four (suc (suc zero)) p a b c d = refl
alone_all_four (suc (suc (suc zero))) p a b c d = refl
alone_all_four (suc (suc (suc (suc zero)))) p a b c d = refl
alone_all_four (suc (suc (suc (suc (suc zero))))) p a b c d = refl
alone_all_four (suc (suc (suc (suc (suc (suc zero)))))) p a b c d = refl
alone_all_four (suc (suc (suc (suc (suc (suc (suc zero))))))) p a b c d = refl
alone_all_four (suc (suc (suc (suc (suc (suc (suc (suc m)))))))) p a b c d = absurd (omega arith)
