-- The queue at a place in the order of their resources. Assumes nothing.
use Rattle.std.specs.Prelude.{Option, Some, None}
use Rattle.format.proofs.Options.{None-ne-Some}
use Prim.Native.Nat.{ℕ, zero, suc, ◌+◌, ◌≤◌, ◌<◌, Ordering}
use native.Mathlib.Nat.{not-suc-le-zero, le_of_suc-le-suc}
use native.Mathlib.Omega.{arith}
use mathlib.Core.Path.{◌≡◌, refl, sym, ap, ap₂, ◌∙◌, subst}
use mathlib.Core.List.{List, [], ◌∷◌}
use lib.ListN.{length, take, drop, get_or}
use lib.Dec.{T}
use Rattle.format.specs.Format.{All, text as text-format}
use Rattle.tables.specs.Table.{text}
use Rattle.tables.proofs.Laws as tables
use Rattle.lent.specs.Lent.{part}
use Rattle.model.specs.Seam.{ResourceId}
use Rattle.model.specs.State.{Map, Queue, SyncState}
use Rattle.model.specs.Limits.{document01, max_id}
use Rattle.model.specs.Maps.{by, by_name, map, get, keys}
use Rattle.model.specs.Machine.{match◌none:◌some:◌}
use Rattle.model.specs.Formats.{resource_id}
use Rattle.model.specs.WellFormed.{rising}
use Rattle.model.proofs.Tables.{name_order, get_below, get_first, rising_tail}
use Rattle.model.proofs.Fitting.{length-map, length_keys, all_at}
use Rattle.state.specs.Layout.{padded, name_slot, pending_slot, pending_width}
use Rattle.state.specs.Fits.{QueueFits}
use Rattle.state.specs.Contract.{state_length, HasState, Keeps, Reads}
use Rattle.state.specs.Values.{name_of, Named}
use Rattle.state.proofs.Rows.{row_at}
use Rattle.state.proofs.Ops.{slot_named}
use Rattle.waiting.specs.Queues.{queue, queue_in}
use Rattle.waiting.specs.Queues as queues
use Rattle.waiting.specs.Entries.{EntryIs, SomeEntryAt, FindsEntry}
use Rattle.waiting.proofs.Keys.{keys_ok}
use Rattle.wellformed.proofs.Flights.{slot_text}
use Rattle.access.specs.Answers.{nth, queue_count}
use Rattle.access.proofs.Laws.{nth_past, byte_in}

-- the entry at a place in a map whose keys rise: it is found by its key
record Placed (i : ℕ) (m : Map ResourceId Queue) : Type 0 where
  e : ResourceId × Queue
  there : nth i m ≡ Some e
  key : get_or (keys m) i [] ≡ e.0
  got : get by_name e.0 m ≡ Some e.1
  fits : QueueFits document01 e

keys_of : (e : ResourceId × Queue) (m : Map ResourceId Queue) → T (rising by_name (keys (e ∷ m))) → T (rising by_name (e.0 ∷ keys m))
unfolding keys map
keys_of e m t = t

got_later : (e x : ResourceId × Queue) (m : Map ResourceId Queue) → T (rising by_name (e.0 ∷ keys m)) → get by_name x.0 m ≡ Some x.1 → get by_name x.0 (e ∷ m) ≡ Some x.1
unfolding get by
got_later e x m t g = go (by_name x.0 e.0) refl
  where
    go : (o : Ordering) → by_name x.0 e.0 ≡ o → by o None (Some e.1) (get by_name x.0 m) ≡ Some x.1
    go Ordering.lt o = absurd (None-ne-Some x.1 (sym (get_below by_name name_order x.0 e.0 m o t) ∙ g))
    go Ordering.eq o =
        let j : x.0 ≡ e.0 = name_order.same x.0 e.0 o in
        absurd (None-ne-Some x.1 (sym (get_first by_name name_order e.0 m t) ∙ ap (λ (k : ResourceId). get by_name k m) (sym j) ∙ g))
    go Ordering.gt o = g

got_first : (e : ResourceId × Queue) (m : Map ResourceId Queue) → get by_name e.0 (e ∷ m) ≡ Some e.1
unfolding get by
got_first e m = rw (name_order.self e.0)

placed : (i : ℕ) (m : Map ResourceId Queue) → T (rising by_name (keys m)) → All (QueueFits document01) m → i < length m → Placed i m
unfolding nth keys map
placed i [] t a h = absurd (not-suc-le-zero h)
placed zero (e ∷ m) t a h = record { e = e; there = refl; key = refl; got = got_first e m; fits = a.0 }
placed (suc i) (e ∷ m) t a h =
    let r : T (rising by_name (e.0 ∷ keys m)) = keys_of e m t in
    let P = placed i m (rising_tail by_name name_order e.0 m r) a.1 (le_of_suc-le-suc h) in
    record { e = P.e; there = P.there; key = P.key; got = got_later e P.e m r P.got; fits = P.fits }

module _ {w : List ℕ} {names : List (List ℕ)} (R : Reads (λ s. map name_slot (keys s.edits)) w names) where
  names_count : {s : SyncState} → Keeps s w → length names ≡ length s.edits
  names_count {s} K = ap length (R.is s K) ∙ length-map name_slot (keys s.edits) ∙ length_keys s.edits

  pub no_queue : {i : ℕ} → length names ≤ i → Reads (λ s. queue_count (nth i s.edits)) w None
  unfolding queue_count
  no_queue {i} h = record { is = λ s K. ap queue_count (nth_past i s.edits (omega (arith, names_count K))) }

plus_zero : (k : ℕ) → k ≡ k + 0
plus_zero k = omega arith

module _ {w b : List ℕ} {names : List (List ℕ)} {i : ℕ} (R : Reads (λ s. map name_slot (keys s.edits)) w names) (h : i < length names) (N : b ≡ get_or names i []) where
  module _ {s : SyncState} (K : Keeps s w) where
    listed : i < length s.edits
    listed = omega (arith, names_count R K)

    name : (name_of b ≡ get_or (keys s.edits) i []) × Named b
    name =
        let l : i < length (keys s.edits) = let c = length_keys s.edits in let k = listed in omega arith in
        let e : b ≡ name_slot (get_or (keys s.edits) i []) = N ∙ ap (λ (x : List (List ℕ)). get_or x i []) (R.is s K) ∙ row_at name_slot [] i (keys s.edits) l in
        slot_named b (get_or (keys s.edits) i []) (all_at resource_id.Ok [] (keys s.edits) i (keys_ok s.edits K.fits.edits.each) l) e

    here : Placed i s.edits
    here = placed i s.edits K.fits.edits.rises K.fits.edits.each listed

    name_is : name_of b ≡ here.e.0
    name_is = name.0 ∙ here.key

    queue_is : queue (name_of b) s ≡ here.e.1
    unfolding queue_in match◌none:◌some:◌
    queue_is = rw (name_is, here.got)

  pub queue_named : HasState w → Named b
  queue_named H = (name H.keeps).1

  -- a queue has a head
  pub has_head : HasState w → FindsEntry (name_of b) 0 w None → ⊥
  unfolding EntryIs queues.nth
  has_head H F = go (here K).e.1 refl (here K).fits.some (ap (queues.nth 0) (sym (queue_is K)) ∙ F.is H.state K)
    where
      K : Keeps H.state w
      K = H.keeps

      go : (q : Queue) → (here K).e.1 ≡ q → 0 < length (here K).e.1 → queues.nth 0 (here K).e.1 ≡ None → ⊥
      go [] e l g = let k = ap length e in omega arith
      go (x ∷ q) e l g = None-ne-Some x (sym g ∙ ap (queues.nth 0) e)

  pub head_room : HasState w → (at : ℕ) → FindsEntry (name_of b) 0 w (Some at) → at + pending_width document01 ≤ state_length
  unfolding EntryIs document01
  head_room H at F = let r = (F.is H.state H.keeps).is.room in omega arith

  pub queue_read : (at size count : ℕ) → FindsEntry (name_of b) 0 w (Some at) → size ≡ get_or w at 0 → Reads (λ s. length (queue (name_of b) s)) w count
      → Reads (λ s. queue_count (nth i s.edits)) w (Some (part (at + 1) size w, count))
  unfolding EntryIs queue_count text text-format max_id pending_slot padded document01
  queue_read at size count F e R = record {
    is = λ s K. ap₂ (λ (x : List ℕ) (y : ℕ). Some (x, y)) (text_at s K (F.is s K)) (R.is s K ∙ ap length (queue_is K)) ∙ sym (ap queue_count (here K).there);
  }
    where
      text_at : (s : SyncState) (K : Keeps s w) → SomeEntryAt (name_of b) 0 w s at → part (at + 1) size w ≡ (here K).e.0
      text_at s K S =
          let r : ResourceId = name_of b in
          let z : size ≡ length r = e ∙ ap (λ (x : ℕ). get_or w x 0) (plus_zero at) ∙ byte_in w at 5940 0 (omega arith) ∙ ap (λ (x : List ℕ). get_or x 0 0) S.is.slot in
          let y : length r ≤ 32 = (name K).1.ok.0 in
          ap (λ (k : ℕ). take k (drop (at + 1) w)) z ∙ tables.field_of w 5940 at 1 (length r) (omega arith) ∙ ap (λ (x : List ℕ). take (length r) (drop 1 x)) S.is.slot
          ∙ slot_text r S.entry ∙ name_is K

pub found_at : {r : ResourceId} {w : List ℕ} {place place' : Option ℕ} → FindsEntry r 0 w place → place ≡ place' → FindsEntry r 0 w place'
found_at {r = r} {w = w} F e = subst (λ (p : Option ℕ). FindsEntry r 0 w p) e F
