-- The resources that have a queue, read off the slots one queue after the other. Assumes nothing.
use Prim.Native.Nat.{Ordering}
use Prim.Native.Nat.{ℕ, suc, ◌+◌, ◌*◌, ◌≤◌, ◌<◌}
use native.Mathlib.Nat.{add-zero}
use native.Mathlib.Omega.{arith}
use mathlib.Core.Path.{◌≡◌, refl, sym, ap, ap₂, ◌∙◌, subst}
use mathlib.Core.List.{List, [], ◌∷◌, ◌++◌, append_assoc, append-nil}
use lib.ListN.{length, take, drop, get_or, length-append}
use lib.Seq.{take_at, get_or-append-add, take-take}
use lib.Dec.{T}
use Rattle.format.specs.Format.{All}
use Rattle.tables.specs.Table.{Table}
use Rattle.model.specs.Seam.{ResourceId}
use Rattle.model.specs.State.{Map, Pending, Queue, SyncState}
use Rattle.model.specs.Limits.{document01}
use Rattle.model.specs.Maps.{by, by_name, get, map, keys}
use Rattle.model.specs.Machine.{match◌none:◌some:◌}
use Rattle.model.specs.Formats.{resource_id}
use Rattle.model.specs.WellFormed.{rising}
use Rattle.model.proofs.Tables as orders
use Rattle.model.proofs.Fitting.{length-map, length_keys, all_keys}
use Rattle.state.specs.Layout.{name_slot, pending_slot, edit_slots}
use Rattle.state.specs.Fits.{QueueFits}
use Rattle.state.specs.Contract.{Keeps, Reads}
use Rattle.state.specs.Values.{name_of, Named}
use Rattle.state.proofs.Padded.{length_name}
use Rattle.state.proofs.Ops.{slot_named}
use Rattle.waiting.specs.Queues.{queue_in, queue}
use Rattle.waiting.proofs.Cuts.{Slot, Rows, Flat}
use Rattle.waiting.proofs.Splices as splices

-- ---- a map in two parts

queue_there : (done : Map ResourceId Queue) (e : ResourceId × Queue) (rest : Map ResourceId Queue) → T (rising by_name (keys (done ++ (e ∷ rest)))) → queue_in e.0 (done ++ (e ∷ rest)) ≡ e.1
unfolding queue_in get match◌none:◌some:◌ by keys map
queue_there [] e rest t = rw (orders.by_name_self e.0)
queue_there (d ∷ done) e rest t =
    let g : by_name e.0 d.0 ≡ Ordering.gt = orders.by_name_turned d.0 e.0 ∙ ap orders.turned (orders.first_below by_name orders.name_order d.0 done e rest t) in
    rw g (queue_there done e rest (orders.rising_tail by_name orders.name_order d.0 (done ++ (e ∷ rest)) t))

flat_two : (a b : Map ResourceId Queue) → Flat (a ++ b) ≡ Flat a ++ Flat b
unfolding edit_slots
flat_two [] b = refl
flat_two (e ∷ a) b = ap (λ (t : Table). Rows e.0 e.1 ++ t) (flat_two a b) ∙ sym (append_assoc (Rows e.0 e.1) (Flat a) (Flat b))

keys_two : (a b : Map ResourceId Queue) → map name_slot (keys (a ++ b)) ≡ map name_slot (keys a) ++ map name_slot (keys b)
unfolding keys map
keys_two [] b = refl
keys_two (e ∷ a) b = ap (λ (t : Table). name_slot e.0 ∷ t) (keys_two a b)

pub keys_ok : (m : Map ResourceId Queue) → All (QueueFits document01) m → All resource_id.Ok (keys m)
keys_ok m a = all_keys (QueueFits document01) resource_id.Ok (λ e k. k.key) m a

-- no queue is empty
few_keys : (m : Map ResourceId Queue) → All (QueueFits document01) m → length m ≤ length (Flat m)
unfolding edit_slots
few_keys [] a = omega arith
few_keys (e ∷ m) a =
    let h : length m ≤ length (Flat m) = few_keys m a.1 in
    let l : length (Rows e.0 e.1 ++ Flat m) ≡ length (Rows e.0 e.1) + length (Flat m) = length-append (Rows e.0 e.1) (Flat m) in
    let n : length (Rows e.0 e.1) ≡ length e.1 = length-map (Slot e.0) e.1 in
    let s : 0 < length e.1 = a.0.some in
    omega arith

all_two : (a b : Map ResourceId Queue) → All (QueueFits document01) (a ++ b) → All (QueueFits document01) a × All (QueueFits document01) b
all_two [] b h = (tt, h)
all_two (e ∷ a) b h = ((h.0, (all_two a b h.1).0), (all_two a b h.1).1)

-- ---- the loop

-- some queues are listed, the others are left
pub record Listed (m : Map ResourceId Queue) (i : ℕ) (names : List (List ℕ)) : Type 0 where
  pub done : Map ResourceId Queue
  pub rest : Map ResourceId Queue
  pub is : m ≡ done ++ rest
  pub here : i ≡ length (Flat done)
  pub named : names ≡ map name_slot (keys done)

pub listed_none : (m : Map ResourceId Queue) → Listed m 0 []
unfolding edit_slots keys map
listed_none m = record { done = []; rest = m; is = refl; here = refl; named = refl }

pub listed_all : {s : SyncState} {w : List ℕ} (i : ℕ) (names : List (List ℕ)) → Keeps s w → get_or w 20002 0 ≤ i → Listed s.edits i names → names ≡ map name_slot (keys s.edits)
listed_all {s} {w} i names h l L = go L.rest L.is (all_two L.done L.rest (subst (All (QueueFits document01)) L.is h.fits.edits.each)).1
  where
    go : (rest : Map ResourceId Queue) → s.edits ≡ L.done ++ rest → All (QueueFits document01) rest → names ≡ map name_slot (keys s.edits)
    go [] e a = L.named ∙ ap (λ (m : Map ResourceId Queue). map name_slot (keys m)) (sym (e ∙ append-nil L.done))
    go (x ∷ rest) e a =
        let c : get_or w 20002 0 ≡ length (Flat s.edits) = (splices.slots_of_lem h).count in
        let f : length (Flat s.edits) ≡ length (Flat L.done) + length (Flat (x ∷ rest)) = ap (λ (m : Map ResourceId Queue). length (Flat m)) e ∙ ap length (flat_two L.done (x ∷ rest)) ∙ length-append (Flat L.done) (Flat (x ∷ rest)) in
        let g : suc (length rest) ≤ length (Flat (x ∷ rest)) = few_keys (x ∷ rest) a in
        let i : i ≡ length (Flat L.done) = L.here in
        absurd (omega arith)

-- one queue more: what stands at its first slot, and what the names are then
pub record Turn (s : SyncState) (w : List ℕ) (i : ℕ) (names : List (List ℕ)) : Type 0 where
  pub e : ResourceId × Queue
  pub key : take 33 (drop (20002 + (1 + i * 5940)) w) ≡ name_slot e.0
  pub ok : resource_id.Ok e.0
  pub queue_is : queue e.0 s ≡ e.1
  pub some : 0 < length e.1
  pub below : i < 6
  pub few : length names < 6
  pub more : i + length e.1 ≤ 6
  pub next : Listed s.edits (i + length e.1) (names ++ (name_slot e.0 ∷ []))

first_row : (r : ResourceId) (q : Queue) (t : Table) → 0 < length q → (p : Pending) × (get_or (Rows r q ++ t) 0 [] ≡ Slot r p)
unfolding map
first_row r [] t h = absurd (omega arith)
first_row r (p ∷ q) t h = (p, refl)

slot_name : (r : ResourceId) (p : Pending) → resource_id.Ok r → take 33 (Slot r p) ≡ name_slot r
unfolding pending_slot
slot_name r p k = take_at (name_slot r) _ 33 (length_name r k)

listed_here : (i : ℕ) (done : Map ResourceId Queue) (x : ResourceId × Queue) → i ≡ length (Flat done) → i + length x.1 ≡ length (Flat (done ++ (x ∷ [])))
unfolding edit_slots
listed_here i done x e =
    let a : length (Flat done ++ (Rows x.0 x.1 ++ [])) ≡ length (Flat done) + length (Rows x.0 x.1 ++ []) = length-append (Flat done) (Rows x.0 x.1 ++ []) in
    let b : length (Rows x.0 x.1 ++ []) ≡ length x.1 = ap length (append-nil (Rows x.0 x.1)) ∙ length-map (Slot x.0) x.1 in
    sym (ap length (flat_two done (x ∷ [])) ∙ omega arith)

listed_names : (done : Map ResourceId Queue) (x : ResourceId × Queue) (names : List (List ℕ)) → names ≡ map name_slot (keys done) → names ++ (name_slot x.0 ∷ []) ≡ map name_slot (keys (done ++ (x ∷ [])))
unfolding keys map
listed_names done x names e = ap (λ (y : List (List ℕ)). y ++ (name_slot x.0 ∷ [])) e ∙ sym (keys_two done (x ∷ []))

turn_of : {s : SyncState} {w : List ℕ} (h : Keeps s w) (i : ℕ) (names : List (List ℕ)) (done : Map ResourceId Queue) (x : ResourceId × Queue) (rest : Map ResourceId Queue)
    → s.edits ≡ done ++ (x ∷ rest) → i < get_or w 20002 0 → i ≡ length (Flat done) → names ≡ map name_slot (keys done) → Turn s w i names
unfolding document01 edit_slots
turn_of {s} {w} h i names done x rest e l here named =
    let S = splices.slots_of_lem h in
    let c : get_or w 20002 0 ≡ length (Flat s.edits) = S.count in
    let F : Flat s.edits ≡ Flat done ++ (Rows x.0 x.1 ++ Flat rest) = ap Flat e ∙ flat_two done (x ∷ rest) in
    let few : length (Flat s.edits) ≤ 6 = h.fits.edits.small in
    let all : All (QueueFits document01) (done ++ (x ∷ rest)) = subst (All (QueueFits document01)) e h.fits.edits.each in
    let ad : All (QueueFits document01) done = (all_two done (x ∷ rest) all).0 in
    let ax : All (QueueFits document01) (x ∷ rest) = (all_two done (x ∷ rest) all).1 in
    let o : 0 < length x.1 = ax.0.some in
    let k : resource_id.Ok x.0 = ax.0.key in
    let g = first_row x.0 x.1 (Flat rest) o in
    let u = splices.slot_in i S (omega arith) in
    let row : get_or (Flat s.edits) i [] ≡ Slot x.0 g.0 =
    ap₂ (λ (t : Table) (n : ℕ). get_or t n []) F (here ∙ sym (add-zero (length (Flat done)))) ∙ get_or-append-add (Flat done) (Rows x.0 x.1 ++ Flat rest) 0 [] ∙ g.1 in
    let p : ℕ = 20002 + (1 + i * 5940) in
    let n1 : length (Flat s.edits) ≡ length (Flat done) + length (Rows x.0 x.1 ++ Flat rest) = ap length F ∙ length-append (Flat done) (Rows x.0 x.1 ++ Flat rest) in
    let n2 : length (Rows x.0 x.1 ++ Flat rest) ≡ length (Rows x.0 x.1) + length (Flat rest) = length-append (Rows x.0 x.1) (Flat rest) in
    let n3 : length (Rows x.0 x.1) ≡ length x.1 = length-map (Slot x.0) x.1 in
    let n4 : length done ≤ length (Flat done) = few_keys done ad in
    let n5 : length names ≡ length done = ap length named ∙ length-map name_slot (keys done) ∙ length_keys done in
    record {
      e = x;
      key = sym (take-take 33 5940 (drop p w) (omega arith)) ∙ ap (take 33) (u.0 ∙ row) ∙ slot_name x.0 g.0 k;
      ok = k;
      queue_is = ap (queue_in x.0) e ∙ queue_there done x rest (subst (λ (m : Map ResourceId Queue). T (rising by_name (keys m))) e h.fits.edits.rises);
      some = o;
      below = omega arith;
      few = omega arith;
      more = omega arith;
      next = record {
        done = done ++ (x ∷ []);
        rest = rest;
        is = e ∙ sym (append_assoc done (x ∷ []) rest);
        here = listed_here i done x here;
        named = listed_names done x names named;
      };
    }

pub turn : {s : SyncState} {w : List ℕ} (i : ℕ) (names : List (List ℕ)) → Keeps s w → i < get_or w 20002 0 → Listed s.edits i names → Turn s w i names
turn {s} {w} i names h l L = go L.rest L.is
  where
    go : (rest : Map ResourceId Queue) → s.edits ≡ L.done ++ rest → Turn s w i names
    go [] e =
        let c : get_or w 20002 0 ≡ length (Flat s.edits) = (splices.slots_of_lem h).count in
        let f : length (Flat s.edits) ≡ length (Flat L.done) = ap (λ (m : Map ResourceId Queue). length (Flat m)) (e ∙ append-nil L.done) in
        let n : i ≡ length (Flat L.done) = L.here in
        absurd (omega arith)
    go (x ∷ rest) e = turn_of h i names L.done x rest e l L.here L.named

module _ {s : SyncState} {w : List ℕ} (i : ℕ) (names : List (List ℕ)) (b : List ℕ) (q : b ≡ take 33 (drop (20002 + (1 + i * 5940)) w)) where
  pub turn_named : (R : Turn s w i names) → Named b
  turn_named R = (slot_named b R.e.0 R.ok (q ∙ R.key)).1

  -- how many entries its queue has
  pub turn_count : (n : ℕ) → Keeps s w → (R : Turn s w i names) → Reads (λ s. length (queue (name_of b) s)) w n → n ≡ length R.e.1
  turn_count n h R N =
      N.is s h ∙ ap (λ (r : ResourceId). length (queue r s)) (slot_named b R.e.0 R.ok (q ∙ R.key)).0 ∙ ap length R.queue_is

  pub turn_next : (n : ℕ) → Keeps s w → i < get_or w 20002 0 → Listed s.edits i names → Reads (λ s. length (queue (name_of b) s)) w n → Listed s.edits (i + n) (names ++ (b ∷ []))
  turn_next n h l L N =
      let R = turn i names h l L in
      rw (turn_count n h R N, q ∙ R.key) R.next
