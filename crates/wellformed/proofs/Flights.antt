-- What the tests of slots across tables say of a state: its numbers in flight, and the requests for its queues. Assumes nothing.
use Rattle.std.specs.Prelude.{Some, None, is_ok, cond, ◌&&◌, count_by, filter as pick}
use Rattle.std.specs.List.{list_all}
use Rattle.std.proofs.lemmas.List.Sums.{length-filter}
use Prim.Native.Nat.{ℕ, suc, ◌+◌, ◌-◌, Ordering}
use native.Mathlib.Omega.{arith}
use mathlib.Core.Path.{◌≡◌, refl, sym, ap, ap₂, ◌∙◌}
use mathlib.Core.List.{List, [], ◌∷◌, ◌++◌}
use mathlib.Core.Bool.{Bool, true, false, ◌||◌}
use lib.ListN.{length, take, drop, get_or}
use lib.Seq.{take_all, drop-drop, get_or-append-add}
use lib.Dec.{ltb, eqb, compare_is_eq}
use Rattle.format.specs.Format.{All, via, enum, ◌∣◌, nothing, text as text-format, number}
use Rattle.spans.specs.Bytes.{zeros}
use Rattle.spans.specs.Compare.{order}
use Rattle.std.specs.declared.cmp.Ordering.TheVariants.{Less}
use Rattle.numbers.specs.Big.{from_be}
use Rattle.tables.specs.Table.{Table, text, place, at_place, is_equal}
use Rattle.tables.proofs.Laws as tables
use Rattle.model.specs.Event.{Text}
use Rattle.model.specs.Seam.{RequestId, ResourceId}
use Rattle.model.specs.State.{Map, Pending, Queue, Purpose, SyncState}
use Rattle.model.specs.Limits.{document01}
use Rattle.model.specs.Maps.{when◌then◌else◌, by, by_name, same_text, filter, map, is_some, get, keys, values}
use Rattle.model.specs.Formats.{resource_id, u64}
use Rattle.model.specs.SavedForm.{purpose_f}
use Rattle.model.specs.Sync.{edit_reads, edit_writes}
use Rattle.model.specs.WellFormed.{all, count, for_edit, edit_requests, has_queue}
use Rattle.model.proofs.Tables.{by_name_turned}
use Rattle.state.specs.Layout.{padded, field, name_slot, number_key, flight_slot, pending_slot, edit_slots}
use Rattle.state.specs.Fits.{QueueFits}
use Rattle.state.proofs.Padded.{length_name, text_name, text_name_only, length_number}
use Rattle.state.proofs.Orders.{flipped, name_order, from_digits}
use Rattle.state.proofs.Ops.{flight_number, flight_value}
use Rattle.wellformed.specs.Tests.{is_below, is_edit, key_in, is_queued, is_for, is_asked}

-- ---- a waiting entry's slot

pub slot_text : (r : ResourceId) (p : Pending) → text (pending_slot document01 r p) ≡ r
unfolding pending_slot
slot_text r p = text_name r _

-- ---- one in_flight slot

below_of : (n : ℕ) (e : RequestId × Purpose) → u64.Ok e.0 → is_below n (flight_slot e) ≡ ltb e.0 n
unfolding is_below number
below_of n e h = ap (λ (x : ℕ). ltb x n) (ap (from_be 0) (flight_number e) ∙ from_digits e.0 h)

-- the byte of the purpose
kind_in : (e : RequestId × Purpose) → get_or (flight_slot e) 9 0 ≡ get_or (field 34 purpose_f e.1) 0 0
kind_in e = ap (λ (n : ℕ). get_or (flight_slot e) n 0) (sym (length_number e.0) ∙ sym_zero (length (number_key e.0))) ∙ get_or-append-add (number_key e.0) (field 34 purpose_f e.1) 0 0
  where
    sym_zero : (n : ℕ) → n ≡ n + 0
    sym_zero n = omega arith

-- a purpose of a resource is its byte and the key
purpose_is : (k : ℕ) (r : ResourceId) → padded 34 (k ∷ resource_id.enc r) ≡ k ∷ name_slot r
unfolding padded text-format
purpose_is k r =
    let n : 34 - suc (suc (length r)) ≡ 33 - suc (length r) = omega arith in
    ap (λ (x : ℕ). k ∷ (length r ∷ (r ++ zeros x))) n

key_of : (e : RequestId × Purpose) (k : ℕ) (r : ResourceId) → resource_id.Ok r → field 34 purpose_f e.1 ≡ k ∷ name_slot r → key_in (flight_slot e) ≡ name_slot r
key_of e k r ok p =
    let d : drop 10 (flight_slot e) ≡ name_slot r = sym (drop-drop 1 9 (flight_slot e)) ∙ ap (drop 1) (flight_value e ∙ p) in
    let l : length (name_slot r) ≡ 33 = length_name r ok in
    ap (take 33) d ∙ take_all 33 (name_slot r) (omega arith)

kind_of : (e : RequestId × Purpose) (k : ℕ) (t : List ℕ) → field 34 purpose_f e.1 ≡ k ∷ t → get_or (flight_slot e) 9 0 ≡ k
kind_of e k t p = kind_in e ∙ ap (λ (x : List ℕ). get_or x 0 0) p

-- not for an edit
other : (e : RequestId × Purpose) (k : ℕ) (t : List ℕ) → field 34 purpose_f e.1 ≡ k ∷ t → eqb k 2 ≡ false → eqb k 3 ≡ false → is_edit (flight_slot e) ≡ false
unfolding is_edit
other e k t p q r = rw (kind_of e k t p, q, r)

edit_two : (e : RequestId × Purpose) (t : List ℕ) → field 34 purpose_f e.1 ≡ 2 ∷ t → is_edit (flight_slot e) ≡ true
unfolding is_edit
edit_two e t p = rw (kind_of e 2 t p)

edit_three : (e : RequestId × Purpose) (t : List ℕ) → field 34 purpose_f e.1 ≡ 3 ∷ t → is_edit (flight_slot e) ≡ true
unfolding is_edit
edit_three e t p = rw (kind_of e 3 t p)

-- ---- a slot against the queues

-- past the rest of a lesser queue
past : (key : List ℕ) (r : ResourceId) (q : Queue) (t : Table) (b : Bool) (at : ℕ) → order r (text key) ≡ Less → ((at : ℕ) → is_ok (place 5940 key t at) ≡ b)
    → is_ok (place 5940 key (map (pending_slot document01 r) q ++ t) at) ≡ b
unfolding place map
past key r [] t b at o f = f at
past key r (p ∷ q) t b at o f = rw (slot_text r p, o) (past key r q t b (at + 5940) o f)

-- a key is found among the entries' slots exactly where its queue is there
pub found_is : (key : List ℕ) (m : Map ResourceId Queue) → All (QueueFits document01) m → (at : ℕ) → is_ok (place 5940 key (edit_slots document01 m) at) ≡ is_some (get by_name (text key) m)
unfolding edit_slots place get is_some by map
found_is key [] a at = refl
found_is key ((r, []) ∷ m) a at = absurd (let h = a.0.some in omega arith)
found_is key ((r, p ∷ q) ∷ m) a at = go (by_name (text key) r) refl (found_is key m a.1)
  where
    go : (o : Ordering) → by_name (text key) r ≡ o → ((at : ℕ) → is_ok (place 5940 key (edit_slots document01 m) at) ≡ is_some (get by_name (text key) m))
        → is_ok (at_place (order (text (pending_slot document01 r p)) (text key)) at (place 5940 key (map (pending_slot document01 r) q ++ edit_slots document01 m) (at + 5940)))
        ≡ is_some (by o None (Some (p ∷ q)) (get by_name (text key) m))
    go Ordering.lt e f = rw (slot_text r p, name_order r (text key), e)
    go Ordering.eq e f = rw (slot_text r p, name_order r (text key), e)
    go Ordering.gt e f = rw (slot_text r p, name_order r (text key), e) (past key r q (edit_slots document01 m) _ (at + 5940) (name_order r (text key) ∙ ap flipped e) f)

-- the same text, by the tables' order
pub same_order : (q r : Text) → is_equal (order q r) ≡ same_text q r
unfolding same_text
same_order q r = ap is_equal (name_order q r) ∙ go (by_name r q) refl
  where
    go : (o : Ordering) → by_name r q ≡ o → is_equal (flipped (by_name r q)) ≡ compare_is_eq (by_name q r)
    go Ordering.lt e = rw (by_name_turned r q, e)
    go Ordering.eq e = rw (by_name_turned r q, e)
    go Ordering.gt e = rw (by_name_turned r q, e)

module _ (s : SyncState) (a : All (QueueFits document01) s.edits) where
  queued_other : (e : RequestId × Purpose) → is_edit (flight_slot e) ≡ false → is_queued (edit_slots document01 s.edits) (flight_slot e) ≡ true
  unfolding is_queued
  queued_other e h = rw h

  queued_edit : (e : RequestId × Purpose) (r : ResourceId) → is_edit (flight_slot e) ≡ true → key_in (flight_slot e) ≡ name_slot r
      → is_queued (edit_slots document01 s.edits) (flight_slot e) ≡ is_some (get by_name r s.edits)
  unfolding is_queued
  queued_edit e r h k = rw (h, k) (found_is (name_slot r) s.edits a 1 ∙ ap (λ (x : Text). is_some (get by_name x s.edits)) (text_name_only r))

  queued_is : (e : RequestId × Purpose) → purpose_f.Ok e.1 → is_queued (edit_slots document01 s.edits) (flight_slot e) ≡ has_queue s e.1
  unfolding has_queue purpose_f via enum ◌∣◌ nothing padded
  queued_is (n, Purpose.List) ok = queued_other (n, Purpose.List) (other (n, Purpose.List) 0 (zeros 33) refl refl refl)
  queued_is (n, Purpose.PassRead r) ok = queued_other (n, Purpose.PassRead r) (other (n, Purpose.PassRead r) 1 (name_slot r) (purpose_is 1 r) refl refl)
  queued_is (n, Purpose.EditRead r) ok = queued_edit (n, Purpose.EditRead r) r (edit_two (n, Purpose.EditRead r) (name_slot r) (purpose_is 2 r)) (key_of (n, Purpose.EditRead r) 2 r ok (purpose_is 2 r))
  queued_is (n, Purpose.EditWrite r) ok = queued_edit (n, Purpose.EditWrite r) r (edit_three (n, Purpose.EditWrite r) (name_slot r) (purpose_is 3 r)) (key_of (n, Purpose.EditWrite r) 3 r ok (purpose_is 3 r))
  queued_is (n, Purpose.Refresh r) ok = queued_other (n, Purpose.Refresh r) (other (n, Purpose.Refresh r) 4 (name_slot r) (purpose_is 4 r) refl refl)

for_other : (key : List ℕ) (e : RequestId × Purpose) → is_edit (flight_slot e) ≡ false → is_for key (flight_slot e) ≡ false
unfolding is_for
for_other key e h = rw h

for_named : (key : List ℕ) (e : RequestId × Purpose) (r : ResourceId) → is_edit (flight_slot e) ≡ true → key_in (flight_slot e) ≡ name_slot r → is_for key (flight_slot e) ≡ same_text r (text key)
unfolding is_for
for_named key e r h k = rw (h, k) (ap (λ (x : Text). is_equal (order x (text key))) (text_name_only r) ∙ same_order r (text key))

or-false : (b : Bool) → b ≡ (b || false)
or-false true = refl
or-false false = refl

for_is : (key : List ℕ) (e : RequestId × Purpose) → purpose_f.Ok e.1 → is_for key (flight_slot e) ≡ for_edit (text key) e.1
unfolding for_edit edit_reads edit_writes purpose_f via enum ◌∣◌ nothing padded
for_is key (n, Purpose.List) ok = for_other key (n, Purpose.List) (other (n, Purpose.List) 0 (zeros 33) refl refl refl)
for_is key (n, Purpose.PassRead r) ok = for_other key (n, Purpose.PassRead r) (other (n, Purpose.PassRead r) 1 (name_slot r) (purpose_is 1 r) refl refl)
for_is key (n, Purpose.EditRead r) ok =
    for_named key (n, Purpose.EditRead r) r (edit_two (n, Purpose.EditRead r) (name_slot r) (purpose_is 2 r)) (key_of (n, Purpose.EditRead r) 2 r ok (purpose_is 2 r)) ∙ or-false (same_text r (text key))
for_is key (n, Purpose.EditWrite r) ok =
    for_named key (n, Purpose.EditWrite r) r (edit_three (n, Purpose.EditWrite r) (name_slot r) (purpose_is 3 r)) (key_of (n, Purpose.EditWrite r) 3 r ok (purpose_is 3 r))
for_is key (n, Purpose.Refresh r) ok = for_other key (n, Purpose.Refresh r) (other (n, Purpose.Refresh r) 4 (name_slot r) (purpose_is 4 r) refl refl)

-- ---- all slots

abbrev pub FlightFits : RequestId × Purpose → Type 0
FlightFits e = u64.Ok e.0 × purpose_f.Ok e.1

pub all_below : (n : ℕ) (m : Map RequestId Purpose) → All FlightFits m → list_all (is_below n) (map flight_slot m) ≡ all (λ id. ltb id n) (keys m)
unfolding map keys all
all_below n [] a = refl
all_below n (e ∷ m) a = ap₂ ◌&&◌ (below_of n e a.0.0) (all_below n m a.1)

pub all_queued : (s : SyncState) → All (QueueFits document01) s.edits → (m : Map RequestId Purpose) → All FlightFits m → list_all (is_queued (edit_slots document01 s.edits)) (map flight_slot m) ≡ all (has_queue s) (values m)
unfolding map values all
all_queued s q [] a = refl
all_queued s q (e ∷ m) a = ap₂ ◌&&◌ (queued_is s q e a.0.1) (all_queued s q m a.1)

picked : (key : List ℕ) (m : Map RequestId Purpose) → All FlightFits m → length (pick (is_for key) (map flight_slot m)) ≡ count (for_edit (text key)) (values m)
unfolding map values count filter when◌then◌else◌
picked key [] a = refl
picked key (e ∷ m) a = go (is_for key (flight_slot e)) (for_edit (text key) e.1) (for_is key e a.0.1) (picked key m a.1)
  where
    go : (b c : Bool) → b ≡ c → length (pick (is_for key) (map flight_slot m)) ≡ length (filter (for_edit (text key)) (map (λ e. e.1) m))
        → length (cond b (flight_slot e ∷ pick (is_for key) (map flight_slot m)) (pick (is_for key) (map flight_slot m)))
        ≡ length (when c then e.1 ∷ filter (for_edit (text key)) (map (λ e. e.1) m) else filter (for_edit (text key)) (map (λ e. e.1) m))
    go true true p q = ap suc q
    go false false p q = q
    go true false p q = absurd (tables.false_true (sym p))
    go false true p q = absurd (tables.false_true p)

count_is : (key : List ℕ) (m : Map RequestId Purpose) → All FlightFits m → count_by (is_for key) (map flight_slot m) ≡ count (for_edit (text key)) (values m)
count_is key m a = sym (length-filter (is_for key) (map flight_slot m)) ∙ picked key m a

asked_is : (s : SyncState) → All FlightFits s.in_flight → (r : ResourceId) (p : Pending) → is_asked (map flight_slot s.in_flight) (pending_slot document01 r p) ≡ eqb (edit_requests r s) 1
unfolding is_asked edit_requests
asked_is s a r p = ap (λ (n : ℕ). eqb n 1) (count_is (pending_slot document01 r p) s.in_flight a ∙ ap (λ (x : Text). count (for_edit x) (values s.in_flight)) (slot_text r p))

and_again : (b c : Bool) → (b && (b && c)) ≡ (b && c)
and_again true c = refl
and_again false c = refl

-- all entries of a queue are asked for alike
queue_asked : (s : SyncState) → All FlightFits s.in_flight → (r : ResourceId) (p : Pending) (q : Queue) (t : Table)
    → list_all (is_asked (map flight_slot s.in_flight)) (map (pending_slot document01 r) (p ∷ q) ++ t) ≡ (eqb (edit_requests r s) 1 && list_all (is_asked (map flight_slot s.in_flight)) t)
unfolding map
queue_asked s a r p [] t = ap (λ (b : Bool). b && list_all (is_asked (map flight_slot s.in_flight)) t) (asked_is s a r p)
queue_asked s a r p (p' ∷ q) t = ap₂ ◌&&◌ (asked_is s a r p) (queue_asked s a r p' q t) ∙ and_again (eqb (edit_requests r s) 1) (list_all (is_asked (map flight_slot s.in_flight)) t)

pub all_asked : (s : SyncState) → All FlightFits s.in_flight → (m : Map ResourceId Queue) → All (QueueFits document01) m
    → list_all (is_asked (map flight_slot s.in_flight)) (edit_slots document01 m) ≡ all (λ resource. eqb (edit_requests resource s) 1) (keys m)
unfolding edit_slots keys map all
all_asked s a [] q = refl
all_asked s a ((r, []) ∷ m) q = absurd (let h = q.0.some in omega arith)
all_asked s a ((r, p ∷ l) ∷ m) q =
    queue_asked s a r p l (edit_slots document01 m) ∙ ap (λ (b : Bool). eqb (edit_requests r s) 1 && b) (all_asked s a m q.1)
