-- Moving one entry at a time is the definition's filter. Assumes nothing.
use Rattle.std.specs.Prelude.{Option, Some, None}
use Prim.Native.Nat.{Ordering}
use Prim.Native.Nat.{ℕ, suc, ◌+◌}
use native.Mathlib.Omega.{arith}
use mathlib.Core.Path.{◌≡◌, refl, sym, ap, ap₂, ◌∙◌}
use mathlib.Core.List.{[], ◌∷◌, ◌++◌, append_assoc, append-nil}
use mathlib.Core.Bool.{Bool, true, false, not}
use lib.Dec.{eqb}
use lib.ListN.{length, length-append}
use Rattle.model.specs.Seam.{ResourceId}
use Rattle.model.specs.Edits.{Operation}
use Rattle.model.specs.State.{Map, Pending, Queue, SyncState}
use Rattle.model.specs.Maps.{is_some_and, when◌then◌else◌, by_name, get, insert, map, filter}
use Rattle.model.specs.Machine.{match◌none:◌some:◌}
use Rattle.model.specs.Sync.{is_create}
use Rattle.model.proofs.Tables.{name_order, get_insert, get_insert_other}
use Rattle.state.specs.Setters.{with_edits}
use Rattle.waiting.specs.Queues.{queue_in, put_in, queue, put_queue, nth, without, renamed, joined, moved}
use Rattle.writes.specs.Moves.{stays_at, one_moved, place_after, sweep}
use Rattle.writes.proofs.Inserts.{insert_over, insert_swap}

-- ---- one entry of a list

abbrev creates : Pending → Bool
creates p = is_create p.edit.operation

nth_mid : (K : Queue) (x : Pending) (R : Queue) → nth (length K) (K ++ (x ∷ R)) ≡ Some x
unfolding nth
nth_mid [] x R = refl
nth_mid (y ∷ K) x R = nth_mid K x R

without_mid : (K : Queue) (x : Pending) (R : Queue) → without (length K) (K ++ (x ∷ R)) ≡ K ++ R
unfolding without
without_mid [] x R = refl
without_mid (y ∷ K) x R = ap (λ (l : Queue). y ∷ l) (without_mid K x R)

-- ---- a queue of a map

queue_put : (r : ResourceId) (p : Pending) (q : Queue) (m : Map ResourceId Queue) → queue_in r (insert by_name r (p ∷ q) m) ≡ p ∷ q
unfolding queue_in match◌none:◌some:◌
queue_put r p q m = rw (get_insert by_name name_order r (p ∷ q) m)

pub queue_other : (r k : ResourceId) (q : Queue) (m : Map ResourceId Queue) → (by_name r k ≡ Ordering.eq → ⊥) → queue_in r (insert by_name k q m) ≡ queue_in r m
unfolding queue_in match◌none:◌some:◌
queue_other r k q m d = rw (get_insert_other by_name name_order r k q m d)

pub put_some : (r : ResourceId) (q : Queue) (x : Pending) (t : Queue) (m : Map ResourceId Queue) → put_in r (q ++ (x ∷ t)) m ≡ insert by_name r (q ++ (x ∷ t)) m
unfolding put_in
put_some r [] x t m = refl
put_some r (y ∷ q) x t m = refl

pub queue_there : (r : ResourceId) (p : Pending) (q : Queue) (m : Map ResourceId Queue) → queue_in r m ≡ p ∷ q → get by_name r m ≡ Some (p ∷ q)
unfolding queue_in match◌none:◌some:◌
queue_there r p q m e = go (get by_name r m) e
  where
    go : (o : Option Queue) → (match o none: [] some: (λ q. q)) ≡ p ∷ q → o ≡ Some (p ∷ q)
    go None e = let z : ◌≡◌ {A = ℕ} 0 1 = cc in absurd (omega arith)
    go (Some x) e = ap Some e

module _ (from to : ResourceId) (d : by_name from to ≡ Ordering.eq → ⊥) (d' : by_name to from ≡ Ordering.eq → ⊥) (p : Pending) (m : Map ResourceId Queue) where
  abbrev T : Queue
  T = queue_in to m

  -- so far: K have stayed, M have moved, R are left
  unfoldable pub form : Queue → Queue → Queue → Map ResourceId Queue
  form K [] R = insert by_name from (p ∷ (K ++ R)) m
  form K (x ∷ M) R = insert by_name to (T ++ (x ∷ M)) (insert by_name from (p ∷ (K ++ R)) m)

  form_from : (K M R : Queue) → queue_in from (form K M R) ≡ p ∷ (K ++ R)
  unfolding form
  form_from K [] R = queue_put from p (K ++ R) m
  form_from K (x ∷ M) R = queue_other from to (T ++ (x ∷ M)) (insert by_name from (p ∷ (K ++ R)) m) d ∙ queue_put from p (K ++ R) m

  pub form_to : (K M R : Queue) → queue_in to (form K M R) ≡ T ++ M
  unfolding form
  form_to K [] R = queue_other to from (p ∷ (K ++ R)) m d' ∙ sym (append-nil T)
  form_to K (x ∷ M) R = sym_put T x M (insert by_name from (p ∷ (K ++ R)) m)
    where
      sym_put : (t : Queue) (x : Pending) (M : Queue) (n : Map ResourceId Queue) → queue_in to (insert by_name to (t ++ (x ∷ M)) n) ≡ t ++ (x ∷ M)
      sym_put [] x M n = queue_put to x M n
      sym_put (y ∷ t) x M n = queue_put to y (t ++ (x ∷ M)) n

  -- the first of those left leaves
  form_out : (K M : Queue) (x : Pending) (R : Queue) → insert by_name from (p ∷ (K ++ R)) (form K M (x ∷ R)) ≡ form K M R
  unfolding form
  form_out K [] x R = insert_over by_name name_order from (p ∷ (K ++ (x ∷ R))) (p ∷ (K ++ R)) m
  form_out K (y ∷ M) x R =
      insert_swap by_name name_order to from (T ++ (y ∷ M)) (p ∷ (K ++ R)) (insert by_name from (p ∷ (K ++ (x ∷ R))) m) d'
      ∙ ap (insert by_name to (T ++ (y ∷ M))) (insert_over by_name name_order from (p ∷ (K ++ (x ∷ R))) (p ∷ (K ++ R)) m)

  -- and joins the others
  form_in : (K M : Queue) (y : Pending) (R : Queue) → put_in to ((T ++ M) ++ (y ∷ [])) (form K M R) ≡ form K (M ++ (y ∷ [])) R
  unfolding form
  form_in K [] y R = ap (λ (q : Queue). put_in to (q ++ (y ∷ [])) (form K [] R)) (append-nil T) ∙ put_some to T y [] (form K [] R)
  form_in K (x ∷ M) y R =
      put_some to (T ++ (x ∷ M)) y [] (form K (x ∷ M) R)
      ∙ insert_over by_name name_order to (T ++ (x ∷ M)) ((T ++ (x ∷ M)) ++ (y ∷ [])) (insert by_name from (p ∷ (K ++ R)) m)
      ∙ ap (λ (q : Queue). insert by_name to q (insert by_name from (p ∷ (K ++ R)) m)) (append_assoc T (x ∷ M) (y ∷ []))

  -- it stays
  form_stays : (K M : Queue) (x : Pending) (R : Queue) → form K M (x ∷ R) ≡ form (K ++ (x ∷ [])) M R
  unfolding form
  form_stays K [] x R = ap (λ (q : Queue). insert by_name from (p ∷ q) m) (sym (append_assoc K (x ∷ []) R))
  form_stays K (y ∷ M) x R = ap (λ (q : Queue). insert by_name to (T ++ (y ∷ M)) (insert by_name from (p ∷ q) m)) (sym (append_assoc K (x ∷ []) R))

  module _ (s : SyncState) where
    unfoldable pub at_form : Queue → Queue → Queue → SyncState
    at_form K M R = with_edits (form K M R) s

    found : (K M : Queue) (x : Pending) (R : Queue) → nth (suc (length K)) (queue from (at_form K M (x ∷ R))) ≡ Some x
    unfolding nth at_form
    found K M x R = ap (nth (suc (length K))) (form_from K M (x ∷ R)) ∙ nth_mid K x R

    stays_is : (K M : Queue) (x : Pending) (R : Queue) → stays_at from (suc (length K)) (at_form K M (x ∷ R)) ≡ creates x
    unfolding stays_at is_some_and
    stays_is K M x R = ap (is_some_and creates) (found K M x R)

    moved_is : (K M : Queue) (x : Pending) (R : Queue) → moved from (suc (length K)) to (at_form K M (x ∷ R)) ≡ at_form K (M ++ (renamed to x ∷ [])) R
    unfolding moved match◌none:◌some:◌ put_in without at_form
    moved_is K M x R =
        let S : SyncState = at_form K M (x ∷ R) in
        let F : Map ResourceId Queue = form K M (x ∷ R) in
        let y : Pending = renamed to x in
        let a : without (suc (length K)) (queue_in from F) ≡ p ∷ (K ++ R) = ap (without (suc (length K))) (form_from K M (x ∷ R)) ∙ ap (λ (l : Queue). p ∷ l) (without_mid K x R) in
        let b : put_in from (without (suc (length K)) (queue_in from F)) F ≡ form K M R = ap (λ (q : Queue). put_in from q F) a ∙ form_out K M x R in
        ap (λ (o : Option Pending). match o none: S some: (λ q. joined to (renamed to q) (put_queue from (without (suc (length K)) (queue from S)) S))) (found K M x R)
        ∙ ap (λ (G : Map ResourceId Queue). with_edits (put_in to (queue_in to G ++ (y ∷ [])) G) s) b
        ∙ ap (λ (q : Queue). with_edits (put_in to (q ++ (y ∷ [])) (form K M R)) s) (form_to K M R)
        ∙ ap (λ (G : Map ResourceId Queue). with_edits G s) (form_in K M y R)

    turn_stays : (x : Pending) (R K M : Queue) → creates x ≡ true
        → sweep from to (length (x ∷ R)) (suc (length K)) (at_form K M (x ∷ R)) ≡ sweep from to (length R) (suc (length (K ++ (x ∷ [])))) (at_form (K ++ (x ∷ [])) M R)
    unfolding sweep place_after one_moved when◌then◌else◌ at_form
    turn_stays x R K M e =
        let S : SyncState = at_form K M (x ∷ R) in
        let c : stays_at from (suc (length K)) (at_form K M (x ∷ R)) ≡ true = stays_is K M x R ∙ e in
        let n : suc (length K) + 1 ≡ suc (length (K ++ (x ∷ []))) = simp length-append (omega arith) in
        ap (λ (b : Bool). sweep from to (length R) (when b then suc (length K) + 1 else suc (length K)) (when b then S else moved from (suc (length K)) to S)) c
        ∙ ap (λ (j : ℕ). sweep from to (length R) j S) n
        ∙ ap (λ (G : Map ResourceId Queue). sweep from to (length R) (suc (length (K ++ (x ∷ [])))) (with_edits G s)) (form_stays K M x R)

    turn_moves : (x : Pending) (R K M : Queue) → creates x ≡ false
        → sweep from to (length (x ∷ R)) (suc (length K)) (at_form K M (x ∷ R)) ≡ sweep from to (length R) (suc (length K)) (at_form K (M ++ (renamed to x ∷ [])) R)
    unfolding sweep place_after one_moved when◌then◌else◌
    turn_moves x R K M e =
        let S : SyncState = at_form K M (x ∷ R) in
        let c : stays_at from (suc (length K)) (at_form K M (x ∷ R)) ≡ false = stays_is K M x R ∙ e in
        ap (λ (b : Bool). sweep from to (length R) (when b then suc (length K) + 1 else suc (length K)) (when b then S else moved from (suc (length K)) to S)) c
        ∙ ap (sweep from to (length R) (suc (length K))) (moved_is K M x R)

    left_stays : (x : Pending) (R K M : Queue) → creates x ≡ true
        → at_form ((K ++ (x ∷ [])) ++ filter creates R) (M ++ map (renamed to) (filter (λ q. not (creates q)) R)) [] ≡ at_form (K ++ filter creates (x ∷ R)) (M ++ map (renamed to) (filter (λ q. not (creates q)) (x ∷ R))) []
    unfolding filter map when◌then◌else◌
    left_stays x R K M e = rw (e, append_assoc K (x ∷ []) (filter creates R))

    left_moves : (x : Pending) (R K M : Queue) → creates x ≡ false
        → at_form (K ++ filter creates R) ((M ++ (renamed to x ∷ [])) ++ map (renamed to) (filter (λ q. not (creates q)) R)) [] ≡ at_form (K ++ filter creates (x ∷ R)) (M ++ map (renamed to) (filter (λ q. not (creates q)) (x ∷ R))) []
    unfolding filter map when◌then◌else◌
    left_moves x R K M e = rw (e, append_assoc M (renamed to x ∷ []) (map (renamed to) (filter (λ q. not (creates q)) R)))

    pub sweep_form : (R K M : Queue) → sweep from to (length R) (suc (length K)) (at_form K M R) ≡ at_form (K ++ filter creates R) (M ++ map (renamed to) (filter (λ q. not (creates q)) R)) []
    unfolding sweep filter map
    sweep_form [] K M = ap₂ (λ (x y : Queue). at_form x y []) (sym (append-nil K)) (sym (append-nil M))
    sweep_form (x ∷ R) K M = go (creates x) refl (λ K M. sweep_form R K M)
      where
        go : (c : Bool) → creates x ≡ c → ((K M : Queue) → sweep from to (length R) (suc (length K)) (at_form K M R) ≡ at_form (K ++ filter creates R) (M ++ map (renamed to) (filter (λ q. not (creates q)) R)) [])
            → sweep from to (length (x ∷ R)) (suc (length K)) (at_form K M (x ∷ R)) ≡ at_form (K ++ filter creates (x ∷ R)) (M ++ map (renamed to) (filter (λ q. not (creates q)) (x ∷ R))) []
        go true e ih = turn_stays x R K M e ∙ ih (K ++ (x ∷ [])) M ∙ left_stays x R K M e
        go false e ih = turn_moves x R K M e ∙ ih K (M ++ (renamed to x ∷ [])) ∙ left_moves x R K M e
