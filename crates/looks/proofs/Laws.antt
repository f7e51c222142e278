-- What the functions of this crate cite: each law's premises are what the callees ensure. Assumes nothing.
use Rattle.std.specs.Prelude.{Option, Some, None}
use Rattle.format.proofs.Options.{None-ne-Some, Some-injective}
use Prim.Native.Nat.{ℕ, zero, suc, ◌+◌, ◌-◌, ◌/◌, ◌%◌, ◌≤◌, ◌<◌}
use native.Mathlib.Omega.{arith}
use mathlib.Core.Path.{◌≡◌, refl, sym, ap, ap₂, ◌∙◌}
use mathlib.Core.Bool.{Bool, true, false, not}
use mathlib.Core.List.{List, [], ◌∷◌, ◌++◌}
use lib.ListN.{length, take, drop, set, length-drop, length-append, length-set, drop_of_length-le}
use lib.Seq.{take_all, take-nil}
use Rattle.format.specs.Format.{option, via, enum, ◌∣◌, nothing, ◌⊗◌, list, text, number}
use Rattle.lines.specs.Lines.{digits, Puts}
use Rattle.lines.proofs.Laws.{length_digits, digits_place, puts_byte, puts_then}
use Rattle.numbers.specs.Big.{to_be}
use Rattle.tables.proofs.Laws.{false_true}
use Rattle.lent.specs.Lent.{part}
use Rattle.frame.specs.Read.{kept}
use Rattle.model.specs.Event.{Text, ProviderEvent}
use Rattle.model.specs.Seam.{ResourceId}
use Rattle.model.specs.State.{Queue, new}
use Rattle.model.specs.Limits.{document01, max_id, max_text}
use Rattle.model.specs.Maps.{map, keys}
use Rattle.model.specs.Formats.{Bytes, short_text, u64, event_f}
use Rattle.state.proofs.Orders.{to_digits}
use Rattle.access.specs.Answers.{Answers, nth, numbered, record_bytes, queue_count}
use Rattle.looks.specs.Look.{counted, seen, record_f, queue_f, seen_f, held_state, look_line}
use Rattle.looks.specs.Writes.{Room, Shows, texted}
use Rattle.looks.proofs.Held.{answer_is, seen_ok}
use Rattle.looks.proofs.Lists.{shows_then, all_nth, There}

-- ---- parts of a state

module _ (s : List ℕ) (at len : ℕ) where
  pub part_past : length s < at → take 0 s ≡ part at len s
  part_past h = sym (ap (take len) (drop_of_length-le s {i = at} (omega arith)) ∙ take-nil len)

  pub part_short : length s - at < len → take (length s - at) (drop at s) ≡ part at len s
  part_short h =
      let l = length-drop at s in
      take_all (length s - at) (drop at s) (omega arith) ∙ sym (take_all len (drop at s) (omega arith))

  pub part_whole : take (at + len - at) (drop at s) ≡ part at len s
  part_whole = let e : at + len - at ≡ len = omega arith in rw e

-- ---- bytes behind bytes

pub not-true : {b : Bool} → not b ≡ true → b ≡ false
not-true {b = true} e = sym e
not-true {b = false} e = refl

pub not-false : {b : Bool} → not b ≡ false → b ≡ true
not-false {b = true} e = refl
not-false {b = false} e = sym e

pub shows_text : {text mid after : Bytes} {at next end : ℕ} (t : Bytes) {n : ℕ} → n ≡ length t → Room (texted t) text at → Shows (n ∷ []) text mid at next → Shows t mid after next end → Shows (texted t) text after at end
shows_text t {n} e h P Q = rw e at (shows_then (n ∷ []) t P Q (omega arith))

module _ (x y x' y' text : Bytes) (at : ℕ) (e : x' ≡ x) (f : y' ≡ y) (room : Room (x ++ y) text at) where
  pub first_room : Room x' text at
  first_room = let l = length-append x y in let m = ap length e in omega arith

  pub second_room : {mid : Bytes} {next : ℕ} → length mid ≡ length text → Shows x' text mid at next → Room y' mid next
  second_room s P = let l = length-append x y in let m = ap length e in let n = ap length f in let p = digits_place x' P in omega arith

  pub shows_both : {mid after : Bytes} {next end : ℕ} → Shows x' text mid at next → Shows y' mid after next end → Shows (x ++ y) text after at end
  shows_both P Q = let l = length-append x y in shows_then x y (rw e at P) (rw f at Q) (omega arith)

-- ---- the cursor

module _ (b : Bytes) (code : ℕ) (found : Bool) (t : Text) (R : Answers (λ s. s.cursor) None b code (kept found t)) where
  cursor_held : kept found t ≡ (held_state b).cursor
  unfolding new
  cursor_held = answer_is R refl

  pub no_cursor : found ≡ false → (option short_text).enc (held_state b).cursor ≡ 0 ∷ []
  unfolding option via enum ◌∣◌ nothing
  no_cursor e = ap (option short_text).enc (sym (cursor_held) ∙ ap (λ (f : Bool). kept f t) e)

  pub some_cursor : found ≡ true → (option short_text).enc (held_state b).cursor ≡ 1 ∷ texted t
  unfolding option via enum ◌∣◌ text
  some_cursor e = ap (option short_text).enc (sym (cursor_held) ∙ ap (λ (f : Bool). kept f t) e)

  pub cursor_short : found ≡ true → length t ≤ 255
  unfolding seen_f seen ◌⊗◌ option via enum ◌∣◌ text max_text
  cursor_short e = go (held_state b).cursor (sym (cursor_held) ∙ ap (λ (f : Bool). kept f t) e) (seen_ok b).0
    where
      go : (c : Option Text) → c ≡ Some t → (option short_text).Ok c → length t ≤ 255
      go None h ok = absurd (None-ne-Some t h)
      go (Some u) h ok = let l : length u ≤ 32 = ok.0 in let m = ap length (Some-injective u t h) in omega arith

-- ---- the records

module _ (b : Bytes) (i code : ℕ) (found : Bool) (n e : Bytes) (R : Answers (λ s. record_bytes (nth i s.records)) None b code (kept found (n, e))) where
  record_held : kept found (n, e) ≡ record_bytes (nth i (held_state b).records)
  unfolding new nth record_bytes
  record_held = answer_is R refl

  pub no_record : found ≡ false → nth i (held_state b).records ≡ None
  unfolding record_bytes
  no_record h = go (nth i (held_state b).records) (ap (λ (f : Bool). kept f (n, e)) (sym h) ∙ record_held)
    where
      go : (o : Option (ResourceId × ProviderEvent)) → None ≡ record_bytes o → o ≡ None
      go None k = refl
      go (Some x) k = absurd (None-ne-Some _ k)

  record RecordAt (o : Option (ResourceId × ProviderEvent)) : Type 0 where
    x : ResourceId × ProviderEvent
    is : o ≡ Some x
    name : n ≡ x.0
    event : e ≡ event_f.enc x.1

  record_there : found ≡ true → RecordAt (nth i (held_state b).records)
  unfolding record_bytes
  record_there h = go (nth i (held_state b).records) (ap (λ (f : Bool). kept f (n, e)) (sym h) ∙ record_held)
    where
      go : (o : Option (ResourceId × ProviderEvent)) → Some (n, e) ≡ record_bytes o → RecordAt o
      go None k = absurd (None-ne-Some (n, e) (sym k))
      go (Some x) k =
          let p : ◌≡◌ {A = Bytes × Bytes} (n, e) (x.0, event_f.enc x.1) = Some-injective (n, e) (x.0, event_f.enc x.1) k in
          record { x = x; is = refl; name = ap (λ (q : Bytes × Bytes). q.0) p; event = ap (λ (q : Bytes × Bytes). q.1) p }

  pub some_record : found ≡ true → There record_f.enc (nth i (held_state b).records) (texted n ++ e)
  unfolding ◌⊗◌ text
  some_record h = let r = record_there h in record { x = r.x; is = r.is; shown = ap₂ (λ (y z : Bytes). texted y ++ z) r.name r.event }

  pub record_short : found ≡ true → length n ≤ 255
  unfolding seen_f seen ◌⊗◌ list text max_id
  record_short h =
      let r = record_there h in
      let l : length r.x.0 ≤ 32 = (all_nth record_f.Ok i (held_state b).records (seen_ok b).1.0.1 r.is).0.0 in
      let m = ap length r.name in
      omega arith

pub few_records : (b : Bytes) → length (held_state b).records ≤ 255
unfolding seen_f seen ◌⊗◌ list document01
few_records b = let l : length (held_state b).records ≤ 10 = (seen_ok b).1.0.0 in omega arith

-- ---- the numbers in flight

pub shows_number : {text after : Bytes} {at next : ℕ} (n : ℕ) {bytes : Bytes} → bytes ≡ to_be 8 n → Shows bytes text after at next → Shows (u64.enc n) text after at next
unfolding number
shows_number n e P = rw (e, to_digits 8 n) at P

pub number_room : (n : ℕ) {bytes : Bytes} → bytes ≡ to_be 8 n → length (u64.enc n) ≡ length bytes
unfolding number
number_room n e = ap length (sym (e ∙ to_digits 8 n))

module _ (b : Bytes) (i code : ℕ) (found : Bool) (n : ℕ) (R : Answers (λ s. numbered (nth i (keys s.in_flight))) (false, 0) b code (found, n)) where
  flight_held : ◌≡◌ {A = Bool × ℕ} (found, n) (numbered (nth i (keys (held_state b).in_flight)))
  unfolding new nth numbered keys map
  flight_held = answer_is R refl

  pub no_flight : found ≡ false → nth i (keys (held_state b).in_flight) ≡ None
  unfolding numbered
  no_flight h = go (nth i (keys (held_state b).in_flight)) (sym h ∙ ap (λ (p : Bool × ℕ). p.0) flight_held)
    where
      go : (o : Option ℕ) → false ≡ (numbered o).0 → o ≡ None
      go None k = refl
      go (Some x) k = absurd (false_true k)

  pub some_flight : found ≡ true → There u64.enc (nth i (keys (held_state b).in_flight)) (u64.enc n)
  unfolding numbered
  some_flight h = go (nth i (keys (held_state b).in_flight)) (sym h ∙ ap (λ (p : Bool × ℕ). p.0) flight_held) (ap (λ (p : Bool × ℕ). p.1) flight_held)
    where
      go : (o : Option ℕ) → true ≡ (numbered o).0 → n ≡ (numbered o).1 → There u64.enc o (u64.enc n)
      go None k e = absurd (false_true (sym k))
      go (Some x) k e = record { x = x; is = refl; shown = ap u64.enc e }

pub few_flights : (b : Bytes) → length (keys (held_state b).in_flight) ≤ 255
unfolding seen_f seen ◌⊗◌ list document01
few_flights b = let l : length (keys (held_state b).in_flight) ≤ 24 = (seen_ok b).1.1.0.0 in omega arith

-- ---- the queues

pub one_byte : (n : ℕ) → n % 256 ∷ [] ≡ (number 1).enc n
unfolding number
one_byte n = let e : n % 256 ≡ n / 1 % 256 = omega arith in ap (λ (x : ℕ). x ∷ []) e

nth_map : {A B : Type 0} (f : A → B) (i : ℕ) (l : List A) {x : A} → nth i l ≡ Some x → nth i (map f l) ≡ Some (f x)
unfolding nth map
nth_map f i [] {x} e = absurd (None-ne-Some x e)
nth_map f zero (y ∷ l) {x} e = ap (λ (z : _). Some (f z)) (Some-injective y x e)
nth_map f (suc i) (y ∷ l) e = nth_map f i l e

nth_map_none : {A B : Type 0} (f : A → B) (i : ℕ) (l : List A) → nth i l ≡ None → nth i (map f l) ≡ None
unfolding nth map
nth_map_none f i [] e = refl
nth_map_none f zero (y ∷ l) e = absurd (None-ne-Some y (sym e))
nth_map_none f (suc i) (y ∷ l) e = nth_map_none f i l e

module _ (b : Bytes) (i code : ℕ) (found : Bool) (n : Bytes) (c : ℕ) (R : Answers (λ s. queue_count (nth i s.edits)) None b code (kept found (n, c))) where
  queue_held : kept found (n, c) ≡ queue_count (nth i (held_state b).edits)
  unfolding new nth queue_count
  queue_held = answer_is R refl

  pub no_queue : found ≡ false → nth i (map counted (held_state b).edits) ≡ None
  unfolding queue_count
  no_queue h = nth_map_none counted i (held_state b).edits (go (nth i (held_state b).edits) (ap (λ (f : Bool). kept f (n, c)) (sym h) ∙ queue_held))
    where
      go : (o : Option (ResourceId × Queue)) → None ≡ queue_count o → o ≡ None
      go None k = refl
      go (Some x) k = absurd (None-ne-Some _ k)

  record QueueAt (o : Option (ResourceId × Queue)) : Type 0 where
    x : ResourceId × Queue
    is : o ≡ Some x
    name : n ≡ x.0
    count : c ≡ length x.1

  queue_there : found ≡ true → QueueAt (nth i (held_state b).edits)
  unfolding queue_count
  queue_there h = go (nth i (held_state b).edits) (ap (λ (f : Bool). kept f (n, c)) (sym h) ∙ queue_held)
    where
      go : (o : Option (ResourceId × Queue)) → Some (n, c) ≡ queue_count o → QueueAt o
      go None k = absurd (None-ne-Some (n, c) (sym k))
      go (Some x) k =
          let p : ◌≡◌ {A = Bytes × ℕ} (n, c) (x.0, length x.1) = Some-injective (n, c) (x.0, length x.1) k in
          record { x = x; is = refl; name = ap (λ (q : Bytes × ℕ). q.0) p; count = ap (λ (q : Bytes × ℕ). q.1) p }

  pub some_queue : found ≡ true → There queue_f.enc (nth i (map counted (held_state b).edits)) (texted n ++ (number 1).enc c)
  unfolding ◌⊗◌ text
  some_queue h =
      let r = queue_there h in
      record { x = counted r.x; is = nth_map counted i (held_state b).edits r.is; shown = ap₂ (λ (y : Bytes) (z : ℕ). texted y ++ (number 1).enc z) r.name r.count }

  pub queue_short : found ≡ true → length n ≤ 255
  unfolding seen_f seen ◌⊗◌ list text max_id
  queue_short h =
      let r = queue_there h in
      let l : length r.x.0 ≤ 32 = (all_nth queue_f.Ok i (map counted (held_state b).edits) (seen_ok b).1.1.1.1 (nth_map counted i (held_state b).edits r.is)).0.0 in
      let m = ap length r.name in
      omega arith

pub few_queues : (b : Bytes) → length (map counted (held_state b).edits) ≤ 255
unfolding seen_f seen ◌⊗◌ list document01
few_queues b = let l : length (map counted (held_state b).edits) ≤ 6 = (seen_ok b).1.1.1.0 in omega arith

-- ---- the line

abbrev pub cursor_bytes : Bytes → Bytes
cursor_bytes b = (option short_text).enc (held_state b).cursor

abbrev pub records_bytes : Bytes → Bytes
records_bytes b = (list document01.records record_f).enc (held_state b).records

abbrev pub flights_bytes : Bytes → Bytes
flights_bytes b = (list document01.in_flight u64).enc (keys (held_state b).in_flight)

abbrev pub queues_bytes : Bytes → Bytes
queues_bytes b = (list document01.waiting queue_f).enc (map counted (held_state b).edits)

pub line_is : (b : Bytes) → look_line b ≡ digits (cursor_bytes b ++ (records_bytes b ++ (flights_bytes b ++ queues_bytes b))) ++ (10 ∷ [])
unfolding look_line seen_f seen ◌⊗◌
line_is b = refl

pub line_long : (b : Bytes) → length (look_line b) ≡ suc (length (cursor_bytes b) + length (cursor_bytes b) + (length (records_bytes b) + length (records_bytes b)
    + (length (flights_bytes b) + length (flights_bytes b) + (length (queues_bytes b) + length (queues_bytes b)))))
line_long b =
    let x : Bytes = cursor_bytes b ++ (records_bytes b ++ (flights_bytes b ++ queues_bytes b)) in
    let e : length (look_line b) ≡ length (digits x) + 1 = ap length (line_is b) ∙ length-append (digits x) (10 ∷ []) in
    let d = length_digits x in
    let l1 = length-append (cursor_bytes b) (records_bytes b ++ (flights_bytes b ++ queues_bytes b)) in
    let l2 = length-append (records_bytes b) (flights_bytes b ++ queues_bytes b) in
    let l3 = length-append (flights_bytes b) (queues_bytes b) in
    omega arith

-- the room of each part, where there is room for the line
module _ (b t0 : Bytes) (at : ℕ) (room : at + length (look_line b) ≤ length t0) where
  pub room_cursor : Room (cursor_bytes b) t0 at
  room_cursor = let l = line_long b in omega arith

  module _ {t1 : Bytes} {p1 : ℕ} (s1 : length t1 ≡ length t0) (C : Shows (cursor_bytes b) t0 t1 at p1) where
    pub room_records : Room (records_bytes b) t1 p1
    room_records = let l = line_long b in let c = digits_place (cursor_bytes b) C in omega arith

    module _ {t2 : Bytes} {p2 : ℕ} (s2 : length t2 ≡ length t1) (R : Shows (records_bytes b) t1 t2 p1 p2) where
      pub room_flights : Room (flights_bytes b) t2 p2
      room_flights = let l = line_long b in let c = digits_place (cursor_bytes b) C in let r = digits_place (records_bytes b) R in omega arith

      module _ {t3 : Bytes} {p3 : ℕ} (s3 : length t3 ≡ length t2) (F : Shows (flights_bytes b) t2 t3 p2 p3) where
        pub room_queues : Room (queues_bytes b) t3 p3
        room_queues =
            let l = line_long b in
            let c = digits_place (cursor_bytes b) C in
            let r = digits_place (records_bytes b) R in
            let f = digits_place (flights_bytes b) F in
            omega arith

module _ (b : Bytes) {t0 t1 t2 t3 t4 : Bytes} {at p1 p2 p3 p4 : ℕ} (room : at + length (look_line b) ≤ length t0)
    (s1 : length t1 ≡ length t0) (s2 : length t2 ≡ length t1) (s3 : length t3 ≡ length t2) (s4 : length t4 ≡ length t3)
    (C : Shows (cursor_bytes b) t0 t1 at p1) (R : Shows (records_bytes b) t1 t2 p1 p2) (F : Shows (flights_bytes b) t2 t3 p2 p3) (Q : Shows (queues_bytes b) t3 t4 p3 p4) where
  ends_at : p4 + 1 ≡ at + length (look_line b)
  ends_at =
      let l = line_long b in
      let c = digits_place (cursor_bytes b) C in
      let r = digits_place (records_bytes b) R in
      let f = digits_place (flights_bytes b) F in
      let q = digits_place (queues_bytes b) Q in
      omega arith

  pub line_room : p4 < length t4
  line_room = let e = ends_at in omega arith

  pub shows_line : Puts (look_line b) t0 (set t4 p4 10) at (p4 + 1)
  shows_line =
      let l = line_long b in
      let c = digits_place (cursor_bytes b) C in
      let r = digits_place (records_bytes b) R in
      let f = digits_place (flights_bytes b) F in
      let d = length_digits (cursor_bytes b ++ (records_bytes b ++ (flights_bytes b ++ queues_bytes b))) in
      let e = ends_at in
      let fq : Shows (flights_bytes b ++ queues_bytes b) t2 t4 p2 p4 = shows_then (flights_bytes b) (queues_bytes b) F Q (omega arith) in
      let rfq : Shows (records_bytes b ++ (flights_bytes b ++ queues_bytes b)) t1 t4 p1 p4 = shows_then (records_bytes b) (flights_bytes b ++ queues_bytes b) R fq (omega arith) in
      let all : Shows (cursor_bytes b ++ (records_bytes b ++ (flights_bytes b ++ queues_bytes b))) t0 t4 at p4 = shows_then (cursor_bytes b) (records_bytes b ++ (flights_bytes b ++ queues_bytes b)) C rfq (omega arith) in
      rw (line_is b) (puts_then all (puts_byte t4 p4 10 line_room) (let p = all.place in omega arith))

pub same_after : (t0 t1 t2 t3 t4 : Bytes) (p : ℕ) → length t1 ≡ length t0 → length t2 ≡ length t1 → length t3 ≡ length t2 → length t4 ≡ length t3 → length (set t4 p 10) ≡ length t0
same_after t0 t1 t2 t3 t4 p e f g h = length-set t4 p 10 ∙ h ∙ g ∙ f ∙ e
