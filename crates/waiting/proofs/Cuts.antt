-- The slots of all queues, cut at one resource: those before it, its own, and those behind it. Another queue for it takes the place
-- of its own. Assumes nothing.
use Prim.Native.Nat.{Ordering}
use Prim.Native.Nat.{ℕ, suc, ◌+◌, ◌*◌, ◌≤◌}
use native.Mathlib.Nat.{zero-mul, suc-mul}
use native.Mathlib.Omega.{arith}
use mathlib.Core.Path.{◌≡◌, refl, sym, ap, ap₂, ◌∙◌, subst}
use mathlib.Core.List.{List, [], ◌∷◌, ◌++◌, append_assoc}
use mathlib.Core.Bool.{true, false, cond}
use lib.ListN.{length, length-append}
use lib.Dec.{T}
use Rattle.format.specs.Format.{All}
use Rattle.spans.specs.Compare.{order}
use Rattle.std.specs.declared.cmp.Ordering.{Ordering as Rank}
use Rattle.std.specs.declared.cmp.Ordering.TheVariants.{Less, Equal, Greater}
use Rattle.tables.specs.Table.{Table, text}
use Rattle.model.specs.Event.{Text}
use Rattle.model.specs.Seam.{ResourceId}
use Rattle.model.specs.State.{Map, Pending, Queue}
use Rattle.model.specs.Limits.{document01}
use Rattle.model.specs.Maps.{by, by_name, get, insert, remove, map, keys, values}
use Rattle.model.specs.Machine.{match◌none:◌some:◌, sum}
use Rattle.model.specs.Formats.{resource_id}
use Rattle.model.specs.WellFormed.{rising}
use Rattle.model.proofs.Tables as orders
use Rattle.model.proofs.Fitting.{all_append, all_insert, all_remove, length-map}
use Rattle.state.specs.Layout.{pending_slot, queue_slots, edit_slots}
use Rattle.state.specs.Fits.{PendingFits, QueueFits, EditsFit}
use Rattle.state.proofs.Orders.{flipped, name_order}
use Rattle.state.proofs.Padded.{text_name}
use Rattle.std.proofs.lemmas.List.Sums.{sum_by-cons, sum_by-append}
use Rattle.waiting.specs.Queues.{queue_in, put_in, below}
use Rattle.waiting.specs.Slots.{is_rank, tallied}

-- ---- slots by their keys

abbrev pub Slot : ResourceId → Pending → List ℕ
Slot r p = pending_slot document01 r p

abbrev pub Rows : ResourceId → Queue → Table
Rows r q = queue_slots document01 r q

abbrev pub Flat : Map ResourceId Queue → Table
Flat m = edit_slots document01 m

pub slot_key : (r : ResourceId) (p : Pending) → text (Slot r p) ≡ r
unfolding pending_slot
slot_key r p = text_name r _

-- how each slot's key compares with r
abbrev Keyed : Rank → ResourceId → Table → Type 0
Keyed o r t = All (λ s. order (text s) r ≡ o) t

rows_keyed : (o : Rank) (r k : ResourceId) (q : Queue) → order k r ≡ o → Keyed o r (Rows k q)
unfolding map
rows_keyed o r k [] e = tt
rows_keyed o r k (p ∷ q) e = (ap (λ (x : Text). order x r) (slot_key k p) ∙ e, rows_keyed o r k q e)

-- a map whose first key is above r
all_above : (r : ResourceId) (m : Map ResourceId Queue) → T (rising by_name (r ∷ keys m)) → Keyed Greater r (Flat m)
unfolding edit_slots keys map rising
all_above r [] t = tt
all_above r (e ∷ m) t =
    let l : by_name r e.0 ≡ Ordering.lt = orders.is_lt (by_name r e.0) (orders.and_left (by (by_name r e.0) true false false) _ t) in
    all_append (λ s. order (text s) r ≡ Greater) (Rows e.0 e.1) (Flat m)
    (rows_keyed Greater r e.0 e.1 (name_order e.0 r ∙ ap flipped l))
    (all_above r m (orders.rising_skip by_name orders.name_order r e.0 m l (orders.and_right (by (by_name r e.0) true false false) _ t)))

-- ---- the cut

pub record Cut (r : ResourceId) (m : Map ResourceId Queue) : Type 0 where
  pub pre : Table
  pub post : Table
  pub is : Flat m ≡ pre ++ (Rows r (queue_in r m) ++ post)
  pub put : (q : Queue) → Flat (put_in r q m) ≡ pre ++ (Rows r q ++ post)
  pub first : length pre ≡ below r m
  pub low : Keyed Less r pre
  pub high : Keyed Greater r post
  pub own : All (PendingFits document01 r) (queue_in r m)

cut_none : (r : ResourceId) → Cut r []
unfolding edit_slots queue_in put_in below get remove insert map match◌none:◌some:◌
cut_none r = record { pre = []; post = []; is = refl; put = λ q. go q; first = refl; low = tt; high = tt; own = tt }
  where
    go : (q : Queue) → Flat (put_in r q []) ≡ [] ++ (Rows r q ++ [])
    go [] = refl
    go (p ∷ q) = refl

cut_lt : (r : ResourceId) (e : ResourceId × Queue) (m : Map ResourceId Queue) → by_name r e.0 ≡ Ordering.lt → T (rising by_name (keys (e ∷ m))) → Cut r (e ∷ m)
unfolding edit_slots queue_in put_in below get remove insert map match◌none:◌some:◌ by keys rising
cut_lt r e m l t = record {
  pre = [];
  post = Flat (e ∷ m);
  is = rw l;
  put = λ q. go q;
  first = rw l;
  low = tt;
  high = all_above r (e ∷ m) (orders.and_both (by (by_name r e.0) true false false) _ (rw l tt) t);
  own = rw l tt;
}
  where
    go : (q : Queue) → Flat (put_in r q (e ∷ m)) ≡ [] ++ (Rows r q ++ Flat (e ∷ m))
    go [] = rw l
    go (p ∷ q) = rw l

cut_eq : (r : ResourceId) (q₀ : Queue) (m : Map ResourceId Queue) → T (rising by_name (keys ((r, q₀) ∷ m))) → All (PendingFits document01 r) q₀ → Cut r ((r, q₀) ∷ m)
unfolding edit_slots queue_in put_in below get remove insert map match◌none:◌some:◌ by keys
cut_eq r q₀ m t a =
    let l = orders.by_name_self r in
    record {
      pre = [];
      post = Flat m;
      is = rw l;
      put = λ q. go l q;
      first = rw l;
      low = tt;
      high = all_above r m t;
      own = rw l a;
    }
  where
    go : by_name r r ≡ Ordering.eq → (q : Queue) → Flat (put_in r q ((r, q₀) ∷ m)) ≡ [] ++ (Rows r q ++ Flat m)
    go l [] = rw l
    go l (p ∷ q) = rw l

cut_gt : (r : ResourceId) (e : ResourceId × Queue) (m : Map ResourceId Queue) → by_name r e.0 ≡ Ordering.gt → Cut r m → Cut r (e ∷ m)
unfolding edit_slots queue_in put_in below get remove insert map match◌none:◌some:◌ by
cut_gt r e m l C = record {
  pre = Rows e.0 e.1 ++ C.pre;
  post = C.post;
  is = rw l (ap (λ (t : Table). Rows e.0 e.1 ++ t) C.is ∙ sym (append_assoc (Rows e.0 e.1) C.pre _));
  put = λ q. go q;
  first = rw l (length-append (Rows e.0 e.1) C.pre ∙ ap₂ ◌+◌ (length-map (Slot e.0) e.1) C.first);
  low = all_append (λ s. order (text s) r ≡ Less) (Rows e.0 e.1) C.pre (rows_keyed Less r e.0 e.1 (name_order e.0 r ∙ ap flipped l)) C.low;
  high = C.high;
  own = rw l C.own;
}
  where
    go : (q : Queue) → Flat (put_in r q (e ∷ m)) ≡ (Rows e.0 e.1 ++ C.pre) ++ (Rows r q ++ C.post)
    go [] = rw l (ap (λ (t : Table). Rows e.0 e.1 ++ t) (C.put []) ∙ sym (append_assoc (Rows e.0 e.1) C.pre (Rows r [] ++ C.post)))
    go (p ∷ q) = rw l (ap (λ (t : Table). Rows e.0 e.1 ++ t) (C.put (p ∷ q)) ∙ sym (append_assoc (Rows e.0 e.1) C.pre (Rows r (p ∷ q) ++ C.post)))

pub cut : (r : ResourceId) (m : Map ResourceId Queue) → All (QueueFits document01) m → T (rising by_name (keys m)) → Cut r m
unfolding keys map
cut r [] a t = cut_none r
cut r (e ∷ m) a t =
    orders.ordering_cases (λ o. by_name r e.0 ≡ o → Cut r (e ∷ m)) (by_name r e.0)
    (λ l h. cut_lt r e m h t)
    (λ l h.
    let k : r ≡ e.0 = orders.by_name_same r e.0 h in
    subst (λ (x : ResourceId). Cut x (e ∷ m)) (sym k) (cut_eq e.0 e.1 m t a.0.each))
    (λ l h. cut_gt r e m h (cut r m a.1 (orders.rising_tail by_name orders.name_order e.0 m t))) refl

-- ---- counting by keys

-- slots whose keys all have one rank
tally_keyed : (rank o : Rank) (b : List ℕ) (r : ResourceId) (t : Table) → text b ≡ r → Keyed o r t → tallied rank b t ≡ length t * cond (is_rank rank o) 1 0
tally_keyed rank o b r [] e a = sym (zero-mul (cond (is_rank rank o) 1 0))
tally_keyed rank o b r (s ∷ t) e a =
    let f : List ℕ → ℕ = λ x. cond (is_rank rank (order (text x) (text b))) 1 0 in
    let h : tallied rank b t ≡ length t * cond (is_rank rank o) 1 0 = tally_keyed rank o b r t e a.1 in
    let k : order (text s) (text b) ≡ o = ap (order (text s)) e ∙ a.0 in
    let m : suc (length t) * cond (is_rank rank o) 1 0 ≡ length t * cond (is_rank rank o) 1 0 + cond (is_rank rank o) 1 0 = suc-mul (length t) (cond (is_rank rank o) 1 0) in
    sum_by-cons f s t ∙ ap₂ (λ (x : Rank) (y : ℕ). cond (is_rank rank x) 1 0 + y) k h ∙ omega arith

tally_append : (rank : Rank) (b : List ℕ) (t u : Table) → tallied rank b (t ++ u) ≡ tallied rank b t + tallied rank b u
tally_append rank b t u = sum_by-append (λ x. cond (is_rank rank (order (text x) (text b))) 1 0) t u

-- r's own slots, and those before them
pub tally_own : (b : List ℕ) (r : ResourceId) (m : Map ResourceId Queue) → text b ≡ r → Cut r m → tallied Equal b (Flat m) ≡ length (queue_in r m)
tally_own b r m e C =
    let q : Queue = queue_in r m in
    let l : length (Rows r q) ≡ length q = length-map (Slot r) q in
    let x : tallied Equal b C.pre ≡ length C.pre * 0 = tally_keyed Equal Less b r C.pre e C.low in
    let y : tallied Equal b (Rows r q) ≡ length (Rows r q) * 1 = tally_keyed Equal Equal b r (Rows r q) e (rows_keyed Equal r r q (name_order r r ∙ ap flipped (orders.by_name_self r))) in
    let z : tallied Equal b C.post ≡ length C.post * 0 = tally_keyed Equal Greater b r C.post e C.high in
    let d : tallied Equal b (C.pre ++ (Rows r q ++ C.post)) ≡ tallied Equal b C.pre + tallied Equal b (Rows r q ++ C.post) = tally_append Equal b C.pre (Rows r q ++ C.post) in
    let f : tallied Equal b (Rows r q ++ C.post) ≡ tallied Equal b (Rows r q) + tallied Equal b C.post = tally_append Equal b (Rows r q) C.post in
    ap (tallied Equal b) C.is ∙ omega arith

pub tally_before : (b : List ℕ) (r : ResourceId) (m : Map ResourceId Queue) → text b ≡ r → Cut r m → tallied Less b (Flat m) ≡ below r m
tally_before b r m e C =
    let q : Queue = queue_in r m in
    let i : length C.pre ≡ below r m = C.first in
    let x : tallied Less b C.pre ≡ length C.pre * 1 = tally_keyed Less Less b r C.pre e C.low in
    let y : tallied Less b (Rows r q) ≡ length (Rows r q) * 0 = tally_keyed Less Equal b r (Rows r q) e (rows_keyed Equal r r q (name_order r r ∙ ap flipped (orders.by_name_self r))) in
    let z : tallied Less b C.post ≡ length C.post * 0 = tally_keyed Less Greater b r C.post e C.high in
    let d : tallied Less b (C.pre ++ (Rows r q ++ C.post)) ≡ tallied Less b C.pre + tallied Less b (Rows r q ++ C.post) = tally_append Less b C.pre (Rows r q ++ C.post) in
    let f : tallied Less b (Rows r q ++ C.post) ≡ tallied Less b (Rows r q) + tallied Less b C.post = tally_append Less b (Rows r q) C.post in
    ap (tallied Less b) C.is ∙ omega arith

-- all slots
pub flat_count : (m : Map ResourceId Queue) → length (Flat m) ≡ sum (map length (values m))
unfolding edit_slots sum map values
flat_count [] = refl
flat_count (e ∷ m) = length-append (Rows e.0 e.1) (Flat m) ∙ ap₂ ◌+◌ (length-map (Slot e.0) e.1) (flat_count m)

-- ---- a queue in the place of another fits if its entries do

pub put_fits : (r : ResourceId) (q : Queue) (m : Map ResourceId Queue) → EditsFit document01 m → resource_id.Ok r → All (PendingFits document01 r) q → length (Flat (put_in r q m)) ≤ 6 → EditsFit document01 (put_in r q m)
unfolding put_in document01
put_fits r [] m F k a l = record {
  small = l;
  each = all_remove by_name (QueueFits document01) r m F.each;
  rises = orders.rising_remove by_name orders.name_order r m F.rises;
}
put_fits r (p ∷ q) m F k a l = record {
  small = l;
  each = all_insert by_name (QueueFits document01) r (p ∷ q) m (record { key = k; some = omega arith; each = a }) F.each;
  rises = orders.rising_insert by_name orders.name_order r (p ∷ q) m F.rises;
}
