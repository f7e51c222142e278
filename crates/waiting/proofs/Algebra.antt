-- One queue put after another: the laws that sequences of edits of the queues come down to. Assumes nothing.
use Rattle.std.specs.Prelude.{Option, Some, None}
use Rattle.format.proofs.Options.{Some-injective, None-ne-Some}
use Prim.Native.Nat.{◌<◌, Ordering}
use native.Mathlib.Omega.{arith}
use mathlib.Core.Path.{◌≡◌, refl, sym, ap, ap₂, subst}
use mathlib.Core.List.{[], ◌∷◌}
use mathlib.Core.Bool.{true, false}
use lib.ListN.{length}
use lib.Dec.{T}
use Rattle.format.specs.Format.{All}
use Rattle.model.specs.Seam.{ResourceId}
use Rattle.model.specs.State.{Map, Queue, SyncState}
use Rattle.model.specs.Limits.{document01}
use Rattle.model.specs.Maps.{by, by_name, get, insert, remove, map, keys}
use Rattle.model.specs.Machine.{match◌none:◌some:◌}
use Rattle.model.specs.WellFormed.{rising}
use Rattle.model.proofs.Tables as orders
use Rattle.model.proofs.Tables.{ordering_cases}
use Rattle.state.specs.Fits.{QueueFits, Fits}
use Rattle.state.specs.Setters.{with_edits}
use Rattle.waiting.specs.Queues.{queue_in, put_in, queue, put_queue}

abbrev Queues : Type 0
Queues = Map ResourceId Queue

abbrev Rises : Queues → Type 0
Rises m = T (rising by_name (keys m))

-- ---- maps

-- before the first of the keys
first_in : (k : ResourceId) (a : Queue) (m : Queues) → T (rising by_name (k ∷ keys m)) → (insert by_name k a m ≡ (k, a) ∷ m) × (remove by_name k m ≡ m)
unfolding insert remove by keys map rising
first_in k a [] t = (refl, refl)
first_in k a (e ∷ m) t =
    let l : by_name k e.0 ≡ Ordering.lt = orders.is_lt (by_name k e.0) (orders.and_left (by (by_name k e.0) true false false) _ t) in
    (rw l, rw l)

insert_twice : (k : ResourceId) (a b : Queue) (m : Queues) → insert by_name k a (insert by_name k b m) ≡ insert by_name k a m
unfolding insert by
insert_twice k a b [] = rw (orders.by_name_self k)
insert_twice k a b (e ∷ m) =
    ordering_cases (λ o. by_name k e.0 ≡ o → insert by_name k a (insert by_name k b (e ∷ m)) ≡ insert by_name k a (e ∷ m)) (by_name k e.0)
    (λ l h. rw h (rw (orders.by_name_self k))) (λ l h. rw h (rw (orders.by_name_self k))) (λ l h. rw (h, h) (ap (λ (x : Queues). e ∷ x) (insert_twice k a b m))) refl

insert_out : (k : ResourceId) (b : Queue) (m : Queues) → remove by_name k (insert by_name k b m) ≡ remove by_name k m
unfolding insert remove by
insert_out k b [] = rw (orders.by_name_self k)
insert_out k b (e ∷ m) =
    ordering_cases (λ o. by_name k e.0 ≡ o → remove by_name k (insert by_name k b (e ∷ m)) ≡ remove by_name k (e ∷ m)) (by_name k e.0)
    (λ l h. rw h (rw (orders.by_name_self k))) (λ l h. rw h (rw (orders.by_name_self k))) (λ l h. rw (h, h) (ap (λ (x : Queues). e ∷ x) (insert_out k b m))) refl

out_insert : (k : ResourceId) (a : Queue) (m : Queues) → Rises m → insert by_name k a (remove by_name k m) ≡ insert by_name k a m
unfolding insert remove by keys map
out_insert k a [] t = refl
out_insert k a (e ∷ m) t =
    ordering_cases (λ o. by_name k e.0 ≡ o → insert by_name k a (remove by_name k (e ∷ m)) ≡ insert by_name k a (e ∷ m)) (by_name k e.0)
    (λ l h. rw (h, h)) (λ l h. rw h (first_in k a m (subst (λ (x : ResourceId). T (rising by_name (x ∷ keys m))) (sym (orders.by_name_same k e.0 h)) t)).0)
    (λ l h. rw (h, h) (ap (λ (x : Queues). e ∷ x) (out_insert k a m (orders.rising_tail by_name orders.name_order e.0 m t)))) refl

out_twice : (k : ResourceId) (m : Queues) → Rises m → remove by_name k (remove by_name k m) ≡ remove by_name k m
unfolding remove by keys map
out_twice k [] t = refl
out_twice k (e ∷ m) t =
    ordering_cases (λ o. by_name k e.0 ≡ o → remove by_name k (remove by_name k (e ∷ m)) ≡ remove by_name k (e ∷ m)) (by_name k e.0)
    (λ l h. rw (h, h)) (λ l h. rw h (first_in k [] m (subst (λ (x : ResourceId). T (rising by_name (x ∷ keys m))) (sym (orders.by_name_same k e.0 h)) t)).1)
    (λ l h. rw (h, h) (ap (λ (x : Queues). e ∷ x) (out_twice k m (orders.rising_tail by_name orders.name_order e.0 m t)))) refl

-- what is there put again, and what is not there taken out
insert_same : (k : ResourceId) (a : Queue) (m : Queues) → get by_name k m ≡ Some a → insert by_name k a m ≡ m
unfolding get insert by
insert_same k a [] g = absurd (None-ne-Some a g)
insert_same k a (e ∷ m) g =
    ordering_cases (λ o. by_name k e.0 ≡ o → by o None (Some e.1) (get by_name k m) ≡ Some a → by o ((k, a) ∷ e ∷ m) ((k, a) ∷ m) (e ∷ insert by_name k a m) ≡ e ∷ m) (by_name k e.0)
    (λ l h f. absurd (None-ne-Some a f))
    (λ l h f. ap₂ (λ (x : ResourceId) (y : Queue). (x, y) ∷ m) (orders.by_name_same k e.0 h) (sym (Some-injective e.1 a f)))
    (λ l h f. ap (λ (x : Queues). e ∷ x) (insert_same k a m f)) refl g

remove_none : (k : ResourceId) (m : Queues) → get by_name k m ≡ None → remove by_name k m ≡ m
unfolding get remove by
remove_none k [] g = refl
remove_none k (e ∷ m) g =
    ordering_cases (λ o. by_name k e.0 ≡ o → by o None (Some e.1) (get by_name k m) ≡ None → by o (e ∷ m) m (e ∷ remove by_name k m) ≡ e ∷ m) (by_name k e.0)
    (λ l h f. refl) (λ l h f. absurd (None-ne-Some e.1 (sym f))) (λ l h f. ap (λ (x : Queues). e ∷ x) (remove_none k m f)) refl g

some_there : (k : ResourceId) (a : Queue) (m : Queues) → All (QueueFits document01) m → get by_name k m ≡ Some a → 0 < length a
unfolding get by
some_there k a [] f g = absurd (None-ne-Some a g)
some_there k a (e ∷ m) f g =
    ordering_cases (λ o. by o None (Some e.1) (get by_name k m) ≡ Some a → 0 < length a) (by_name k e.0)
    (λ l h. absurd (None-ne-Some a h)) (λ l h. subst (λ (q : Queue). 0 < length q) (Some-injective e.1 a h) f.0.some) (λ l h. some_there k a m f.1 h) g

-- ---- queues

module _ (s : SyncState) (t : Rises s.edits) where
  pub queue_put : (r : ResourceId) (q : Queue) → queue r (put_queue r q s) ≡ q
  unfolding queue_in put_in match◌none:◌some:◌
  queue_put r [] = rw (orders.get_remove by_name orders.name_order r s.edits t)
  queue_put r (p ∷ q) = rw (orders.get_insert by_name orders.name_order r (p ∷ q) s.edits)

  pub put_put : (r : ResourceId) (a b : Queue) → put_queue r a (put_queue r b s) ≡ put_queue r a s
  unfolding put_in
  put_put r [] [] = ap (λ (m : Queues). with_edits m s) (out_twice r s.edits t)
  put_put r [] (p ∷ b) = ap (λ (m : Queues). with_edits m s) (insert_out r (p ∷ b) s.edits)
  put_put r (p ∷ a) [] = ap (λ (m : Queues). with_edits m s) (out_insert r (p ∷ a) s.edits t)
  put_put r (p ∷ a) (q ∷ b) = ap (λ (m : Queues). with_edits m s) (insert_twice r (p ∷ a) (q ∷ b) s.edits)

-- a queue in its own place
put_same : (r : ResourceId) (m : Queues) → All (QueueFits document01) m → put_in r (queue_in r m) m ≡ m
unfolding queue_in put_in match◌none:◌some:◌
put_same r m a = go (get by_name r m) refl
  where
    with_some : (q : Queue) → get by_name r m ≡ Some q → 0 < length q → put_in r q m ≡ m
    with_some [] g l = absurd (omega arith)
    with_some (p ∷ q) g l = insert_same r (p ∷ q) m g

    go : (o : Option Queue) → get by_name r m ≡ o → put_in r (match get by_name r m none: [] some: (λ q. q)) m ≡ m
    go None g = rw g (remove_none r m g)
    go (Some q) g = rw g (with_some q g (some_there r q m a g))

pub put_own : (s : SyncState) → Fits document01 s → (r : ResourceId) → put_queue r (queue r s) s ≡ s
put_own s f r = ap (λ (m : Queues). with_edits m s) (put_same r s.edits f.edits.each)
