-- The moves waiting and the ids of demand 3. Assumes nothing.
use Rattle.std.specs.Prelude.{Option, Some, None}
use Rattle.format.proofs.Options.{None-ne-Some}
use Prim.Native.Nat.{ℕ, suc, ◌+◌, ◌*◌, ◌≤◌}
use native.Mathlib.Omega.{arith}
use native.Mathlib.Nat.{mul-le-mul_right}
use mathlib.Core.Path.{◌≡◌, refl, sym, ap, ap₂, ◌∙◌}
use mathlib.Core.List.{List, [], ◌∷◌, ◌++◌}
use mathlib.Core.Bool.{true, false}
use mathlib.Core.Logic.{◌↔◌}
use lib.ListN.{length, length-append}
use lib.Dec.{T}
use Rattle.format.specs.Format.{All, ◌⊗◌, via, list}
use Rattle.model.specs.Seam.{ResourceId}
use Rattle.model.specs.Edits.{EditId}
use Rattle.model.specs.State.{Map, Queue, SyncState}
use Rattle.model.specs.Limits.{Limits}
use Rattle.model.specs.Maps.{by, by_name, map, get, keys, values}
use Rattle.model.specs.Machine.{match◌none:◌some:◌, sum}
use Rattle.model.specs.SavedForm.{pending_f}
use Rattle.model.specs.Sync.{start, ids_of}
use Rattle.model.specs.Waiting.{queue_ids, ids_over, waiting_ids, moves_waiting}
use Rattle.model.specs.WellFormed.{rising, WellFormed}
use Rattle.model.specs.Demands.{how_often, waiting_in, waiting_over, waiting}
use Rattle.model.specs.WaitingNumbers.{EveryWaitingNumber}
use Rattle.model.proofs.Tables.{and_left, and_right, is_lt, name_order, by_name_self, rising_tail, rising_skip}
use Rattle.model.proofs.Flights.{needs}
use Rattle.model.proofs.OneInFlight.{balanced, full_get}
use Rattle.model.proofs.Fits.{Pended, QueueFits}
use Rattle.model.proofs.FitQueues.{waits}
use Rattle.model.proofs.StaysWellFormed.{start_fit}

-- ---- an id is waiting as often as it stands in the list

module _ (id : EditId) where
  both : (a b : List EditId) → how_often id (a ++ b) ≡ how_often id a + how_often id b
  unfolding how_often
  both [] b = omega arith
  both (x ∷ a) b = omega (arith, both a b)

  in_queue : (q : Queue) → waiting_in id q ≡ how_often id (queue_ids q)
  unfolding waiting_in queue_ids how_often
  in_queue [] = refl
  in_queue (p ∷ q) = omega (arith, both (ids_of p) (queue_ids q), in_queue q)

  in_all : (m : Map ResourceId Queue) → waiting_over id m ≡ how_often id (ids_over m)
  unfolding waiting_over ids_over how_often
  in_all [] = refl
  in_all (e ∷ m) = omega (arith, both (queue_ids e.1) (ids_over m), in_queue e.1, in_all m)

-- ---- the sum

abbrev size : Queue → ℕ
size q = length (queue_ids q)

abbrev count_at : Map ResourceId Queue → ResourceId → ℕ
count_at m r = match get by_name r m none: 0 some: size

-- behind an entry with a lower key the counts are those of the rest
later : (e : ResourceId × Queue) (m n : Map ResourceId Queue) → T (rising by_name (e.0 ∷ keys n)) → map (count_at (e ∷ m)) (keys n) ≡ map (count_at m) (keys n)
unfolding keys map rising get by
later e m [] t = refl
later e m (x ∷ n) t =
    let low = is_lt (by_name e.0 x.0) (and_left (by (by_name e.0 x.0) true false false) _ t) in
    let more = rising_skip by_name name_order e.0 x.0 n low (and_right (by (by_name e.0 x.0) true false false) _ t) in
    let here : count_at (e ∷ m) x.0 ≡ count_at m x.0 = rw (name_order.turn e.0 x.0, low) in
    ap₂ (λ (a : ℕ) (b : List ℕ). a ∷ b) here (later e m n more)

counts_sum : (m : Map ResourceId Queue) → T (rising by_name (keys m)) → sum (map (count_at m) (keys m)) ≡ length (ids_over m)
unfolding keys map sum ids_over get by match◌none:◌some:◌
counts_sum [] t = refl
counts_sum (e ∷ m) t =
    let first : count_at (e ∷ m) e.0 ≡ size e.1 = rw (by_name_self e.0) in
    let rest : sum (map (count_at (e ∷ m)) (keys m)) ≡ length (ids_over m) = ap sum (later e m m t) ∙ counts_sum m (rising_tail by_name name_order e.0 m t) in
    ap₂ ◌+◌ first rest ∙ sym (length-append (queue_ids e.1) (ids_over m))

-- ---- none where there is no queue

zero_is : (o : Option Queue) → ((q : Queue) → o ≡ Some q → needs q ≡ 1) → ((match o none: 0 some: size) ≡ 0) ↔ (o ≡ None)
unfolding match◌none:◌some:◌ queue_ids ids_of
zero_is None h = (λ e. refl, λ e. refl)
zero_is (Some []) h = absurd (let e = h [] refl in omega arith)
zero_is (Some (p ∷ q)) h = (λ e. absurd (omega arith), λ e. absurd (None-ne-Some (p ∷ q) (sym e)))

-- ---- so many at most

module _ (limits : Limits) where
  queue_few : (r : ResourceId) (q : Queue) → All (Pended limits r) q → size q ≤ length q * suc limits.absorbed
  unfolding queue_ids ids_of pending_f via ◌⊗◌ list
  queue_few r [] a = omega arith
  queue_few r (p ∷ q) a =
      let h = a.0.fits.1.1.1.1.0 in
      let l = length-append p.absorbed (queue_ids q) in
      omega (arith, queue_few r q a.1)

  all_few : (m : Map ResourceId Queue) → All (QueueFits limits) m → length (ids_over m) ≤ waits m * suc limits.absorbed
  unfolding ids_over values map sum
  all_few [] a = omega arith
  all_few (e ∷ m) a =
      let l = length-append (queue_ids e.1) (ids_over m) in
      omega (arith, queue_few e.0 e.1 a.0.1, all_few m a.1)

  ids_few : (s : SyncState) → WellFormed limits s → length (ids_over s.edits) ≤ limits.waiting * suc limits.absorbed
  unfolding start
  ids_few s w =
      let h = start_fit limits s w in
      let a = all_few s.edits h.edits in
      let b = mul-le-mul_right (suc limits.absorbed) h.waiting in
      omega arith

pub waiting_numbers : EveryWaitingNumber
unfolding waiting waiting_ids moves_waiting
waiting_numbers limits s w =
    let b = balanced limits s w in
    record {
      listed = λ id. in_all id s.edits;
      summed = counts_sum s.edits b.rises;
      none_waits = λ r. zero_is (get by_name r s.edits) (λ q e. full_get r q s.edits b.full e);
      few = ids_few limits s w;
    }
