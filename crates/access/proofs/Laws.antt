-- What the functions of this crate cite: each law's premises are what the callees ensure. Assumes nothing.
use Rattle.std.specs.Prelude.{Option, Some, None, cond, count_by, filter as pick}
use Rattle.std.proofs.lemmas.List.Sums.{length-filter}
use Rattle.format.proofs.Options.{None-ne-Some}
use Prim.Native.Nat.{ℕ, zero, suc, ◌+◌, ◌-◌, ◌*◌, ◌≤◌, ◌<◌, Ordering}
use native.Mathlib.Nat.{not-suc-le-zero, le_of_suc-le-suc}
use native.Mathlib.Omega.{arith}
use mathlib.Core.Path.{◌≡◌, refl, sym, ap, ap₂, ◌∙◌, subst}
use mathlib.Core.List.{List, [], ◌∷◌, ◌++◌}
use mathlib.Core.Bool.{Bool, true, false}
use lib.ListN.{length, take, drop, get_or, length-drop}
use lib.Seq.{take_at, drop_at, take_all, get_or-take, get_or-drop, length-take-le}
use lib.Dec.{T, compare_is_eq, eqb}
use borrow.Author.Tests.{eqb-true, eqb-false}
use Rattle.format.specs.Format.{option, via, enum, ◌∣◌, nothing, text as text-format, number, big_endian}
use Rattle.format.proofs.SizeLaws.{length_digits}
use Rattle.spans.specs.Bytes.{zeros}
use Rattle.spans.specs.Compare.{order}
use Rattle.std.specs.Ordering.{is_eq}
use Rattle.numbers.specs.Big.{from_be}
use Rattle.tables.specs.Table.{Table, slots_of, text, is_equal}
use Rattle.tables.proofs.Laws as tables
use Rattle.lent.specs.Lent.{part}
use Rattle.frame.specs.Read.{start, skips}
use Rattle.frame.specs.declared.Cursor.{Cursor}
use Rattle.frame.proofs.Steps.{skips_le}
use Rattle.frame.proofs.Spans.{skips_written}
use Rattle.model.specs.Event.{Text, ProviderEvent}
use Rattle.model.specs.Seam.{RequestId, ResourceId}
use Rattle.model.specs.State.{Map, Queue, Purpose, SyncState}
use Rattle.model.specs.Limits.{document01, max_id, max_text}
use Rattle.model.specs.Maps.{by, by_name, same_text, map, get, keys}
use Rattle.model.specs.Machine.{match◌none:◌some:◌}
use Rattle.model.specs.Formats.{resource_id, short_text, event_f}
use Rattle.model.specs.SavedForm.{purpose_f}
use Rattle.model.specs.Demands.{waiting_count}
use Rattle.model.specs.WellFormed.{rising}
use Rattle.model.proofs.Tables.{turned, by_name_turned, name_order, get_below, get_first, rising_tail}
use Rattle.model.proofs.FormatsLaws.{event_f_law}
use Rattle.model.proofs.Fitting.{length_keys}
use Rattle.state.specs.Layout.{padded, field, name_slot, number_key, record_slot, pending_slot, edit_slots}
use Rattle.state.specs.Contract.{state_length, HasState, Reads}
use Rattle.state.proofs.Widths.{event_within}
use Rattle.state.proofs.Padded.{length_name, length_field, text_name}
use Rattle.state.proofs.Orders.{from_digits}
use Rattle.state.proofs.Fresh.{fresh_bytes}
use Rattle.state.proofs.Parts as parts
use Rattle.state.proofs.Columns as columns
use Rattle.state.proofs.Ops as ops
use Rattle.records.proofs.Laws.{record_column}
use Rattle.wellformed.specs.IsState.{IsState}
use Rattle.wellformed.proofs.States.{keeps_of, entries_are}
use Rattle.wellformed.proofs.Flights.{same_order, slot_text}
use Rattle.access.proofs.Asked.{asked_short, asked_other, asked_state, freshened_short, freshened_made}
use Rattle.access.specs.Answers.{asked, Checked, Answers, Freshened, nth, numbered, record_bytes, is_of}

-- ---- the code

one_zero : {A : Type 0} → ◌≡◌ {A = ℕ} 1 0 → A
one_zero e = absurd (omega arith)

two_zero : {A : Type 0} → ◌≡◌ {A = ℕ} 2 0 → A
two_zero e = absurd (omega arith)

pub checked_short : (b : List ℕ) → (length b ≡ state_length → ⊥) → Checked b 1
checked_short b g = record {
  short = λ h. refl;
  other = λ l h. absurd (g l);
  holds = λ I. absurd (g (keeps_of I).long);
  is = one_zero;
}

pub checked_yes : (b : List ℕ) (r : Bool) → (r ≡ true → IsState b) → r ≡ true → Checked b 0
checked_yes b r f e =
    let I = f e in record {
      short = λ h. absurd (h (keeps_of I).long);
      other = λ l h. absurd (h I);
      holds = λ J. refl;
      is = λ z. I;
    }

pub checked_no : (b : List ℕ) (r : Bool) → length b ≡ state_length → (IsState b → r ≡ true) → r ≡ false → Checked b 2
checked_no b r l f e = record {
  short = λ h. absurd (h l);
  other = λ m h. refl;
  holds = λ I. absurd (tables.false_true (sym e ∙ f I));
  is = two_zero;
}

module _ {b : List ℕ} {code : ℕ} (C : Checked b code) where
  pub has_of : code ≡ 0 → HasState b
  has_of e = let I = C.is e in record { state = I.state; keeps = keeps_of I }

  pub answers_no : {A : Type 0} (f : SyncState → A) (missing : A) → (code ≡ 0 → ⊥) → Answers f missing b code missing
  answers_no f missing g = record { is = go (eqb (length b) state_length) refl }
    where
      go : (e : Bool) → eqb (length b) state_length ≡ e → (code, missing) ≡ asked f missing b
      go true e =
          let l : length b ≡ state_length = eqb-true (length b) state_length e in
          let n : IsState b → ⊥ = λ I. g (C.holds I) in
          ap (λ (k : ℕ). (k, missing)) (C.other l n) ∙ sym (asked_other f missing b l n)
      go false e =
          let n : length b ≡ state_length → ⊥ = eqb-false (length b) state_length e in
          ap (λ (k : ℕ). (k, missing)) (C.short n) ∙ sym (asked_short f missing b n)

  pub answers_yes : {A : Type 0} {f : SyncState → A} (missing : A) {r : A} → code ≡ 0 → Reads f b r → Answers f missing b code r
  answers_yes {A} {f} missing {r} e R =
      let I = C.is e in
      record { is = ap₂ (λ (k : ℕ) (x : A). (k, x)) e (R.is I.state (keeps_of I)) ∙ sym (asked_state f missing b (keeps_of I).long I) }

  -- from a callee that answers the code as well
  pub answers_zero : {A : Type 0} {f : SyncState → A} (missing : A) {r : A} {z : ℕ} → code ≡ 0 → z ≡ 0 → Reads f b r → Answers f missing b z r
  answers_zero {f = f} missing {r} e h R = subst (λ (x : ℕ). Answers f missing b x r) (e ∙ sym h) (answers_yes missing e R)

-- ---- a fresh state

pub fresh_short : (b : List ℕ) → (length b ≡ state_length → ⊥) → Freshened b b 1
fresh_short b g = record { is = sym (freshened_short b g) }

pub fresh_made : (b w : List ℕ) → length b ≡ state_length → w ≡ zeros (length b) → Freshened b w 0
fresh_made b w l e = record { is = ap (λ (x : List ℕ). (0, x)) (e ∙ ap zeros l ∙ sym fresh_bytes) ∙ sym (freshened_made b l) }

-- ---- the entry at a place

plus_zero : (n : ℕ) → n + 0 ≡ n
plus_zero n = omega arith

zero_plus : (n : ℕ) → 0 + n ≡ n
zero_plus n = omega arith

pub nth_past : {A : Type 0} (i : ℕ) (l : List A) → length l ≤ i → None ≡ nth i l
unfolding nth
nth_past i [] h = refl
nth_past zero (x ∷ l) h = absurd (not-suc-le-zero h)
nth_past (suc i) (x ∷ l) h = nth_past i l (le_of_suc-le-suc h)

pub nth_get_d : {A : Type 0} (d : A) (i : ℕ) (l : List A) → i < length l → nth i l ≡ Some (get_or l i d)
unfolding nth
nth_get_d d i [] h = absurd (not-suc-le-zero h)
nth_get_d d zero (x ∷ l) h = refl
nth_get_d d (suc i) (x ∷ l) h = nth_get_d d i l (le_of_suc-le-suc h)

-- ---- the waiting entries

pub of_is : (slot resource : List ℕ) (n : ℕ) → take n (drop 1 slot) ≡ text slot → is_eq (order (take (n + 1 - 1) (drop 1 slot)) resource) ≡ is_of resource slot
unfolding is_of
of_is slot resource n t =
    let k : n + 1 - 1 ≡ n = omega arith in
    ap (λ (x : List ℕ). is_equal (order x resource)) (ap (λ (m : ℕ). take m (drop 1 slot)) k ∙ t)

-- entries of a queue, if it is the resource's
abbrev share : Bool → ℕ → ℕ
share true n = n
share false n = 0

shares : ResourceId → Map ResourceId Queue → ℕ
shares r [] = 0
shares r (e ∷ m) = share (same_text e.0 r) (length e.1) + shares r m

queue_count : (r k : ResourceId) (q : Queue) (t : Table) → length (pick (is_of r) (map (pending_slot document01 k) q ++ t)) ≡ share (same_text k r) (length q) + length (pick (is_of r) t)
unfolding map is_of
queue_count r k [] t = go (same_text k r)
  where
    go : (b : Bool) → length (pick (is_of r) t) ≡ share b 0 + length (pick (is_of r) t)
    go true = omega arith
    go false = omega arith
queue_count r k (p ∷ q) t = rw (slot_text k p, same_order k r) (go (same_text k r) (queue_count r k q t))
  where
    go : (b : Bool) → length (pick (is_of r) (map (pending_slot document01 k) q ++ t)) ≡ share b (length q) + length (pick (is_of r) t)
        → length (cond b (pending_slot document01 k p ∷ pick (is_of r) (map (pending_slot document01 k) q ++ t)) (pick (is_of r) (map (pending_slot document01 k) q ++ t))) ≡ share b (suc (length q)) + length (pick (is_of r) t)
    go true e = omega arith
    go false e = e

count_shares : (r : ResourceId) (m : Map ResourceId Queue) → length (pick (is_of r) (edit_slots document01 m)) ≡ shares r m
unfolding edit_slots shares
count_shares r [] = refl
count_shares r (e ∷ m) = queue_count r e.0 e.1 (edit_slots document01 m) ∙ ap (λ (n : ℕ). share (same_text e.0 r) (length e.1) + n) (count_shares r m)

not_same : (k r : ResourceId) → by_name r k ≡ Ordering.lt → same_text k r ≡ false
unfolding same_text
not_same k r e = ap compare_is_eq (by_name_turned r k ∙ ap turned e)

not_same_gt : (k r : ResourceId) → by_name r k ≡ Ordering.gt → same_text k r ≡ false
unfolding same_text
not_same_gt k r e = ap compare_is_eq (by_name_turned r k ∙ ap turned e)

is_same : (k r : ResourceId) → by_name r k ≡ Ordering.eq → same_text k r ≡ true
unfolding same_text
is_same k r e = ap compare_is_eq (by_name_turned r k ∙ ap turned e)

keys_of : (e : ResourceId × Queue) (m : Map ResourceId Queue) → T (rising by_name (keys (e ∷ m))) → T (rising by_name (e.0 ∷ keys m))
unfolding keys map
keys_of e m t = t

-- a resource without a queue has no share
no_share : (r : ResourceId) (m : Map ResourceId Queue) → T (rising by_name (keys m)) → get by_name r m ≡ None → shares r m ≡ 0
unfolding shares get by
no_share r [] t g = refl
no_share r (e ∷ m) t g = go (by_name r e.0) refl g (no_share r m (rising_tail by_name name_order e.0 m (keys_of e m t)))
  where
    go : (o : Ordering) → by_name r e.0 ≡ o → by o None (Some e.1) (get by_name r m) ≡ None → (get by_name r m ≡ None → shares r m ≡ 0)
        → share (same_text e.0 r) (length e.1) + shares r m ≡ 0
    go Ordering.lt o g f = rw (not_same e.0 r o, f (get_below by_name name_order r e.0 m o (keys_of e m t)))
    go Ordering.eq o g f = absurd (None-ne-Some e.1 (sym g))
    go Ordering.gt o g f = rw (not_same_gt e.0 r o, f g)

shares_is : (r : ResourceId) (m : Map ResourceId Queue) → T (rising by_name (keys m)) → shares r m ≡ (match get by_name r m none: 0 some: (λ queue. length queue))
unfolding shares get by match◌none:◌some:◌
shares_is r [] t = refl
shares_is r (e ∷ m) t = go (by_name r e.0) refl (shares_is r m (rising_tail by_name name_order e.0 m (keys_of e m t)))
  where
    go : (o : Ordering) → by_name r e.0 ≡ o → shares r m ≡ (match get by_name r m none: 0 some: (λ queue. length queue))
        → share (same_text e.0 r) (length e.1) + shares r m ≡ (match by o None (Some e.1) (get by_name r m) none: 0 some: (λ queue. length queue))
    go Ordering.lt o f = rw (not_same e.0 r o, no_share r m (rising_tail by_name name_order e.0 m (keys_of e m t)) (get_below by_name name_order r e.0 m o (keys_of e m t)))
    go Ordering.eq o f =
        let j : r ≡ e.0 = name_order.same r e.0 o in
        let g : get by_name r m ≡ None = subst (λ (x : ResourceId). get by_name x m ≡ None) (sym j) (get_first by_name name_order e.0 m (keys_of e m t)) in
        let z : shares r m ≡ 0 = no_share r m (rising_tail by_name name_order e.0 m (keys_of e m t)) g in
        rw (is_same e.0 r o, z) (plus_zero (length e.1))
    go Ordering.gt o f = rw (not_same_gt e.0 r o) (zero_plus (shares r m) ∙ f)

pub waiting_is : (w resource : List ℕ) (n : ℕ) → n ≡ count_by (is_of resource) (slots_of 5940 (part 20002 35641 w)) → Reads (waiting_count resource) w n
unfolding waiting_count
waiting_is w resource n e = record {
  is = λ s K. e ∙ ap (count_by (is_of resource)) (entries_are K) ∙ sym (length-filter (is_of resource) (edit_slots document01 s.edits)) ∙ count_shares resource s.edits ∙ shares_is resource s.edits K.fits.edits.rises;
}

-- ---- the numbers in flight

key_at : (i : ℕ) (m : Map RequestId Purpose) (d : RequestId × Purpose) → i < length m → nth i (keys m) ≡ Some (get_or m i d).0
unfolding nth keys map
key_at i [] d h = absurd (not-suc-le-zero h)
key_at zero (e ∷ m) d h = refl
key_at (suc i) (e ∷ m) d h = key_at i m d (le_of_suc-le-suc h)

pub no_number : (w : List ℕ) (n i : ℕ) → Reads (λ s. length s.in_flight) w n → n ≤ i → Reads (λ s. nth i (keys s.in_flight)) w None
no_number w n i R h = record {
  is = λ s K.
      let e = R.is s K in
      let l = length_keys s.in_flight in
      nth_past i (keys s.in_flight) (omega arith);
}

first_flight : RequestId × Purpose
first_flight = (0, Purpose.List)

pub number_read : (w : List ℕ) (n i v : ℕ) → Reads (λ s. length s.in_flight) w n → i < n → v ≡ from_be 0 (take 8 (drop (55645 + i * 43) w)) → Reads (λ s. nth i (keys s.in_flight)) w (Some v)
unfolding number number_key
number_read w n i v R h e = record {
  is = λ s K.
      let l : n ≡ length s.in_flight = R.is s K in
      let k : i < length s.in_flight = omega arith in
      let N = columns.nth ops.flight_column first_flight i s w K k in
      let f : RequestId × Purpose = get_or s.in_flight i first_flight in
      let a : 55645 + i * 43 ≡ 55643 + (1 + i * 43) + 1 = omega arith in
      let b : take 8 (drop (55645 + i * 43) w) ≡ big_endian 8 f.0 = ap (λ (x : ℕ). take 8 (drop x w)) a ∙ tables.field_of w 43 (55643 + (1 + i * 43)) 1 8 (omega arith)
      ∙ ap (λ (x : List ℕ). take 8 (drop 1 x)) N.0 ∙ take_at (big_endian 8 f.0) (field 34 purpose_f f.1) 8 (length_digits 8 f.0) in
      ap Some (e ∙ ap (from_be 0) b ∙ from_digits f.0 N.2.0) ∙ sym (key_at i s.in_flight first_flight k);
}

-- where a place is in the buffer
pub flight_room : (w : List ℕ) (n i : ℕ) → HasState w → Reads (λ s. length s.in_flight) w n → i < n → (i < 24) × (length w ≡ 58543)
unfolding document01
flight_room w n i H R h =
    let l : n ≡ length H.state.in_flight = R.is H.state H.keeps in
    let k : length H.state.in_flight ≤ 24 = H.keeps.fits.in_flight.small in
    (omega arith, H.keeps.long)

-- ---- the cursor

pub byte_in : (w : List ℕ) (at size k : ℕ) → k < size → get_or w (at + k) 0 ≡ get_or (part at size w) k 0
byte_in w at size k h = sym (get_or-take size (drop at w) k 0 h ∙ get_or-drop at w k 0)

pub cursor_none : (w : List ℕ) → get_or w 9151 0 ≡ 0 → Reads (λ s. s.cursor) w None
unfolding option via enum ◌∣◌ nothing padded
cursor_none w e = record { is = λ s K. go s.cursor (parts.cursor_part s w K) }
  where
    go : (c : Option Text) → part 9151 34 w ≡ field 34 (option short_text) c → None ≡ c
    go None p = refl
    go (Some t) p =
        absurd (let z : 0 ≡ 1 = sym e ∙ byte_in w 9151 34 0 (omega arith) ∙ ap (λ (x : List ℕ). get_or x 0 0) p in omega arith)

pub cursor_some : (w : List ℕ) (n : ℕ) → (get_or w 9151 0 ≡ 0 → ⊥) → n ≡ get_or w 9152 0 → Reads (λ s. s.cursor) w (Some (part 9153 n w))
unfolding option via enum ◌∣◌ nothing padded text-format max_text
cursor_some w n g e = record { is = λ s K. go s.cursor K.fits.cursor (parts.cursor_part s w K) }
  where
    go : (c : Option Text) → (option short_text).Ok c → part 9151 34 w ≡ field 34 (option short_text) c → Some (part 9153 n w) ≡ c
    go None ok p = absurd (g (byte_in w 9151 34 0 (omega arith) ∙ ap (λ (x : List ℕ). get_or x 0 0) p))
    go (Some t) ok p =
        let l : n ≡ length t = e ∙ byte_in w 9151 34 1 (omega arith) ∙ ap (λ (x : List ℕ). get_or x 1 0) p in
        let h : length t ≤ 32 = ok.0 in
        ap Some (tables.field_of w 34 9151 2 n (omega arith) ∙ ap (λ (x : List ℕ). take n (drop 2 x)) p ∙ take_at t (zeros (34 - suc (suc (length t)))) n (sym l))

-- ---- the records

pub no_record : (w : List ℕ) (n i : ℕ) → Reads (λ s. length s.records) w n → n ≤ i → Reads (λ s. record_bytes (nth i s.records)) w None
unfolding record_bytes
no_record w n i R h = record {
  is = λ s K.
      let e = R.is s K in
      ap record_bytes (nth_past i s.records (omega arith));
}

pub record_room : (w : List ℕ) (n i : ℕ) → HasState w → Reads (λ s. length s.records) w n → i < n → (i < 10) × (length w ≡ 58543)
unfolding document01
record_room w n i H R h =
    let l : n ≡ length H.state.records = R.is H.state H.keeps in
    let k : length H.state.records ≤ 10 = H.keeps.fits.records.small in
    (omega arith, H.keeps.long)

-- the parts of a record's slot
module _ (e : ResourceId × ProviderEvent) (ok : resource_id.Ok e.0 × event_f.Ok e.1) where
  size_in : get_or (record_slot e) 0 0 ≡ length e.0
  unfolding padded text-format
  size_in = refl

  name_in : take (length e.0) (drop 1 (record_slot e)) ≡ e.0
  unfolding text
  name_in = ap (λ (n : ℕ). take n (drop 1 (record_slot e))) (sym size_in) ∙ text_name e.0 (field 882 event_f e.1)

  event_in : drop 33 (record_slot e) ≡ field 882 event_f e.1
  event_in = drop_at (name_slot e.0) (field 882 event_f e.1) 33 (length_name e.0 ok.0)

  short_name : length e.0 ≤ 32
  unfolding text-format max_id
  short_name = ok.0.0

  event_ends : (skips event_f (field 882 event_f e.1) start).at ≡ length (event_f.enc e.1)
  unfolding padded
  event_ends =
      ap (λ (c : Cursor). c.at) (skips_written event_f_law [] e.1 (zeros (882 - length (event_f.enc e.1))) ok.1) ∙ zero_plus (length (event_f.enc e.1))

  event_bytes : take (length (event_f.enc e.1)) (field 882 event_f e.1) ≡ event_f.enc e.1
  unfolding padded
  event_bytes = take_at (event_f.enc e.1) (zeros (882 - length (event_f.enc e.1))) (length (event_f.enc e.1)) refl

some_entry : {A : Type 0} (i : ℕ) (l : List A) → i < length l → A
some_entry i [] h = absurd (not-suc-le-zero h)
some_entry i (x ∷ l) h = x

pub record_read : (w : List ℕ) (n i size extent : ℕ) → Reads (λ s. length s.records) w n → i < n → size ≡ get_or w (1 + i * 915) 0 → extent ≡ (skips event_f (part (34 + i * 915) 882 w) start).at
    → Reads (λ s. record_bytes (nth i s.records)) w (Some (part (2 + i * 915) size w, part (34 + i * 915) extent w))
unfolding record_bytes
record_read w n i size extent R h p q = record {
  is = λ s K.
      let l : n ≡ length s.records = R.is s K in
      let k : i < length s.records = omega arith in
      let d : ResourceId × ProviderEvent = some_entry i s.records k in
      let N = columns.nth record_column d i s w K k in
      let f : ResourceId × ProviderEvent = get_or s.records i d in
      let o : 0 + (1 + i * 915) ≡ 1 + i * 915 = omega arith in
      let b : take 915 (drop (1 + i * 915) w) ≡ record_slot f = ap (λ (x : ℕ). take 915 (drop x w)) (sym o) ∙ N.0 in
      let z : size ≡ length f.0 = p ∙ ap (λ (x : ℕ). get_or w x 0) (sym (plus_zero (1 + i * 915))) ∙ byte_in w (1 + i * 915) 915 0 (omega arith) ∙ ap (λ (x : List ℕ). get_or x 0 0) b ∙ size_in f N.2 in
      let y : length f.0 ≤ 32 = short_name f N.2 in
      let a1 : 2 + i * 915 ≡ 1 + i * 915 + 1 = omega arith in
      let name : part (2 + i * 915) size w ≡ f.0 = ap₂ (λ (x m : ℕ). take m (drop x w)) a1 z ∙ tables.field_of w 915 (1 + i * 915) 1 (length f.0) (omega arith)
      ∙ ap (λ (x : List ℕ). take (length f.0) (drop 1 x)) b ∙ name_in f N.2 in
      let a2 : 34 + i * 915 ≡ 1 + i * 915 + 33 = omega arith in
      let whole : part (34 + i * 915) 882 w ≡ field 882 event_f f.1 = ap (λ (x : ℕ). take 882 (drop x w)) a2 ∙ tables.field_of w 915 (1 + i * 915) 33 882 (omega arith)
      ∙ ap (λ (x : List ℕ). take 882 (drop 33 x)) b ∙ ap (take 882) (event_in f N.2) ∙ take_all 882 (field 882 event_f f.1) (let m = length_field event_within f.1 N.2.1 in omega arith) in
      let x : extent ≡ length (event_f.enc f.1) = q ∙ ap (λ (x : List ℕ). (skips event_f x start).at) whole ∙ event_ends f N.2 in
      let v : length (event_f.enc f.1) ≤ 882 = event_within.bytes f.1 N.2.1 in
      let event : part (34 + i * 915) extent w ≡ event_f.enc f.1 = ap₂ (λ (x m : ℕ). take m (drop x w)) a2 x ∙ tables.field_of w 915 (1 + i * 915) 33 (length (event_f.enc f.1)) (omega arith)
      ∙ ap (λ (x : List ℕ). take (length (event_f.enc f.1)) (drop 33 x)) b ∙ ap (take (length (event_f.enc f.1))) (event_in f N.2) ∙ event_bytes f N.2 in
      ap₂ (λ (x y : List ℕ). Some (x, y)) name event ∙ sym (ap record_bytes (nth_get_d d i s.records k));
}

pub event_at : (w : List ℕ) (at : ℕ) (c : Cursor) → c ≡ skips event_f (take (at + 882 - at) (drop at w)) start → c.at ≡ (skips event_f (part at 882 w) start).at
event_at w at c e = ap (λ (x : Cursor). x.at) e ∙ ap (λ (x : List ℕ). (skips event_f x start).at) (tables.part_is w 882 at)

-- an event's bytes end within its slot
pub event_inside : (w : List ℕ) (at extent : ℕ) → at + 882 ≤ length w → extent ≡ (skips event_f (part at 882 w) start).at → at + extent ≤ length w
event_inside w at extent h e =
    let l : (skips event_f (part at 882 w) start).at ≤ length (part at 882 w) = skips_le event_f_law (part at 882 w) start in
    let m : length (part at 882 w) ≡ 882 = length-take-le 882 (drop at w) (simp length-drop (omega arith)) in
    omega arith

-- what a number stands for
pub reads_number : {f : SyncState → Option ℕ} {a : Option ℕ} (b : Option ℕ) (w : List ℕ) → Reads f w a → a ≡ b → Reads (λ s. numbered (f s)) w (numbered b)
reads_number b w R e = record { is = λ s K. ap numbered (sym e ∙ R.is s K) }
