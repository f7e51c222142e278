-- Change request 11/13: where the uses' numbers are below a bound, so are all that wait or are out. Assumes nothing.
use Rattle.std.specs.Prelude.{Option, Some, None}
use Prim.Native.Nat.{ℕ, zero, suc, ◌-◌, ◌<◌}
use mathlib.Core.Path.{◌≡◌, refl}
use mathlib.Core.List.{List, [], ◌∷◌, ◌++◌}
use mathlib.Core.Bool.{true, false, not}
use lib.ListN.{length, set, replicate}
use lib.Dec.{leb, T}
use Rattle.format.specs.Format.{All}
use Rattle.model.specs.Maps.{when◌then◌else◌, is_empty}
use Rattle.sender_turns.specs.Sender.{Call, Sender, Use, Told, Answer, mills, calls, lane_size, fresh, lane, next_mill, first_of, rest_of, granted, telling, grants, grant_all}
use Rattle.sender_turns.specs.Sender.{freed, with_lane, with_out, mill_of, take_use, used, sender_after, sender_over}
use Rattle.sender_turns.specs.Claims.{carried, Numbered}
use Rattle.sender_turns.proofs.Turns.{next_waits}
use Rattle.sender_turns.proofs.Settled.{all_append, all_freed}

module _ (bound : ℕ) where
  abbrev Low : List ℕ → Type 0
  Low l = All (λ n. n < bound) l

  -- ---- lanes

  first_low : (l : List ℕ) → T (not (is_empty l)) → Low l → first_of l < bound
  unfolding is_empty first_of
  first_low [] w p = absurd w
  first_low (n ∷ l) w p = p.0

  rest_low : (l : List ℕ) → Low l → Low (rest_of l)
  unfolding rest_of
  rest_low [] p = p
  rest_low (n ∷ l) p = p.1

  lane_low : (mill : ℕ) (lanes : List (List ℕ)) → All Low lanes → Low (lane mill lanes)
  unfolding lane
  lane_low mill [] p = tt
  lane_low zero (l ∷ lanes) p = p.0
  lane_low (suc mill) (l ∷ lanes) p = lane_low mill lanes p.1

  set_low : (mill : ℕ) (l : List ℕ) (lanes : List (List ℕ)) → Low l → All Low lanes → All Low (set lanes mill l)
  set_low mill l [] q p = p
  set_low zero l (x ∷ lanes) q p = (q, p.1)
  set_low (suc mill) l (x ∷ lanes) q p = (p.0, set_low mill l lanes q p.1)

  -- ---- a grant takes its number from a lane

  grants_numbered : (free : ℕ) (s : Sender) → Numbered bound s → Numbered bound (grants free s).sender
  unfolding grants telling granted
  grants_numbered zero s p = p
  grants_numbered (suc free) s p = go (next_mill mills s.turn s.lanes) (next_waits mills s.turn s.lanes) (grants_numbered free)
    where
      go : (r : Option ℕ) → ((g : ℕ) → r ≡ Some g → T (not (is_empty (lane g s.lanes)))) → ((s : Sender) → Numbered bound s → Numbered bound (grants free s).sender)
          → Numbered bound (elim r as (λ r. Told) [
            | None ↦ record { grants = []; sender = s }
            | Some mill ↦ telling (mill, first_of (lane mill s.lanes)) (grants free (granted mill s))
          ]).sender
      go None f ih = p
      go (Some g) f ih =
          let l : List ℕ = lane g s.lanes in
          let low : Low l = lane_low g s.lanes p.waiting in
          ih (granted g s) (record {
            waiting = set_low g (rest_of l) s.lanes (rest_low l low) p.waiting;
            out = all_append (λ c. c.1 < bound) s.out ((g, first_of l) ∷ []) p.out (first_low l (f g refl) low, tt);
          })

  -- ---- uses

  all_numbered : (s : Sender) → Numbered bound s → Numbered bound (grant_all s).sender
  unfolding grant_all
  all_numbered s p = grants_numbered (calls - length s.out) s p

  put_numbered : (s : Sender) (mill : ℕ) (l : List ℕ) → Numbered bound s → Low l → Numbered bound (grant_all (with_lane mill l s)).sender
  unfolding with_lane
  put_numbered s mill l p q = all_numbered (with_lane mill l s) (record { waiting = set_low mill l s.lanes q p.waiting; out = p.out })

  reply_numbered : (s : Sender) (c : Call) → Numbered bound s → Numbered bound (grant_all (with_out (freed c s.out) s)).sender
  unfolding with_out
  reply_numbered s c p = all_numbered (with_out (freed c s.out) s) (record { waiting = p.waiting; out = all_freed (λ c. c.1 < bound) c s.out p.out })

  pub used_numbered : (s : Sender) (u : Use) → Numbered bound s → Low (carried u) → Numbered bound (sender_after s (used u s))
  unfolding used when◌then◌else◌ sender_after take_use carried
  used_numbered s u p q = elim (leb mills (mill_of u)) as (λ c. Numbered bound (sender_after s (when c then Answer.Refused 11 else take_use u s))) [ true ↦ p | false ↦ taken u q ]
    where
      taken : (u : Use) → Low (carried u) → Numbered bound (sender_after s (take_use u s))
      taken (Use.Enter mill number) q =
          let l : List ℕ = lane mill s.lanes in
          elim (leb lane_size (length l)) as (λ c. Numbered bound (sender_after s (when c then Answer.Refused 12 else Answer.Done (grant_all (with_lane mill (l ++ number ∷ []) s)))))
          [ true ↦ p | false ↦ put_numbered s mill (l ++ number ∷ []) p (all_append (λ n. n < bound) l (number ∷ []) (lane_low mill s.lanes p.waiting) q) ]
      taken (Use.Reply mill number) q = reply_numbered s (mill, number) p
      taken (Use.Resume mill) q = put_numbered s mill [] p tt

  pub over_numbered : (uses : List Use) (s : Sender) → Numbered bound s → All (λ u. (mill_of u < mills) × Low (carried u)) uses → Numbered bound (sender_over s uses)
  unfolding sender_over
  over_numbered [] s p q = p
  over_numbered (u ∷ uses) s p q = over_numbered uses (sender_after s (used u s)) (used_numbered s u p q.0.1) q.1

  pub fresh_numbered : Numbered bound fresh
  unfolding fresh
  fresh_numbered = record { waiting = empty mills; out = tt }
    where
      empty : (n : ℕ) → All Low (replicate n [])
      empty zero = tt
      empty (suc n) = (tt, empty n)
