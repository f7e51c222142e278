-- A table's slots as the slots of entries: a region passes the tests exactly where it is the bytes of a map or a set that fits.
-- Assumes nothing.
use Prim.Native.Nat.{ℕ, suc, ◌+◌, ◌-◌, ◌*◌, ◌^◌, ◌≤◌, ◌<◌, compare, Ordering}
use native.Mathlib.Omega.{arith}
use mathlib.Core.Path.{◌≡◌, refl, sym, ap, ap₂, ◌∙◌, subst}
use mathlib.Core.List.{List, [], ◌∷◌, ◌++◌, append_assoc, append-nil}
use mathlib.Core.Bool.{Bool, true, false}
use borrow.Author.Tests.{lt-ltb, eqb-true}
use lib.Dec.{T, eqb}
use lib.ListN.{length, take, drop, length-append, length-replicate, length-drop, take-append-drop}
use lib.Seq.{take_at, drop_at, take_all}
use Rattle.format.specs.Format.{Format, Lawful, All, text, number, big_endian}
use Rattle.format.proofs.SizeLaws.{Within, length_digits}
use Rattle.format.proofs.FormatLaws.{true_T, T_true, and_inv}
use Rattle.spans.specs.Bytes.{zeros, both, all_zero}
use Rattle.spans.specs.Compare.{order}
use Rattle.tables.specs.Table.{Table, Sized, enc_table, slots_of, text as key-text, key_ok, keys_ok, is_less, rising, rising_from, WellFormed}
use Rattle.tables.proofs.Laws as tables
use Rattle.lent.specs.Lent.{part}
use Rattle.model.specs.Event.{Text}
use Rattle.model.specs.State.{Purpose}
use Rattle.model.specs.Maps.{by, by_name, by_number, map, keys}
use Rattle.model.specs.WellFormed.{rising as rise}
use Rattle.model.specs.Formats.{resource_id, u64}
use Rattle.model.specs.SavedForm.{purpose_f}
use Rattle.model.specs.Limits.{max_id}
use Rattle.model.proofs.FormatsLaws.{resource_id_law, u64_law}
use Rattle.model.proofs.SavedFormLaws.{purpose_f_law}
use Rattle.model.proofs.Tables.{turned, by_name_turned, compare_turned}
use Rattle.model.proofs.Fitting.{length-map}
use Rattle.state.specs.Layout.{padded, field, name_slot, number_key, flight_slot, region}
use Rattle.state.proofs.Widths.{purpose_within}
use Rattle.state.proofs.Padded.{length_field, length_name, text_name, text_name_only, text_number, number_is}
use Rattle.state.proofs.Orders.{flipped, name_order, number_order}
use Rattle.state.proofs.Rows.{sized_rows}
use Rattle.state.proofs.Regions.{rows_long, flight_long}
use Rattle.std.specs.List.{list_all}
use Rattle.regions.specs.Tests.{filled, is_named, is_flight}
use Rattle.regions.specs.Inside.{MapIn, NamesIn}
use Rattle.regions.proofs.Fields.{field_yes, field_no}

-- an entry that the bytes of a slot are
pub record Entry {E : Type 0} (slot : E → List ℕ) (P : E → Type 0) (s : List ℕ) : Type 0 where
  pub entry : E
  pub ok : P entry
  pub is : s ≡ slot entry

-- the slots of entries that keep to P, in `stride` bytes, by a test of bytes
pub record Rows {E K : Type 0} (slot : E → List ℕ) (P : E → Type 0) (key : E → K) (ord : K → K → Ordering) (test : List ℕ → Bool) (stride width : ℕ) : Type 0 where
  pub long : (e : E) → P e → length (slot e) ≡ stride
  pub reads : (s : List ℕ) → length s ≡ stride → test s ≡ true → Entry slot P s
  pub writes : (e : E) → P e → test (slot e) ≡ true
  pub keyed : (e : E) → P e → key_ok width (slot e) ≡ true
  pub ordered : (a b : E) → P a → P b → is_less (order (key-text (slot a)) (key-text (slot b))) ≡ by (ord (key a) (key b)) true false false

-- entries that the slots of a table are
record Entries {E : Type 0} (slot : E → List ℕ) (P : E → Type 0) (t : Table) : Type 0 where
  rows : List E
  ok : All P rows
  is : t ≡ map slot rows

-- what a region holds
pub record Held-in {E K : Type 0} (slot : E → List ℕ) (P : E → Type 0) (key : E → K) (ord : K → K → Ordering) (limit stride : ℕ) (r : List ℕ) : Type 0 where
  pub rows : List E
  pub small : length rows ≤ limit
  pub each : All P rows
  pub rises : T (rise ord (map key rows))
  pub bytes : r ≡ region limit stride (map slot rows)

module _ {E K : Type 0} {slot : E → List ℕ} {P : E → Type 0} {key : E → K} {ord : K → K → Ordering} {test : List ℕ → Bool} {stride width : ℕ} (R : Rows slot P key ord test stride width) where
  decode : (t : Table) → Sized stride t → list_all test t ≡ true → Entries slot P t
  unfolding map
  decode [] z e = record { rows = []; ok = tt; is = refl }
  decode (s ∷ t) z e =
      let b = and_inv (test s) (list_all test t) e in
      let x = R.reads s z.0 b.0 in
      let l = decode t z.1 b.1 in
      record { rows = x.entry ∷ l.rows; ok = (x.ok, l.ok); is = ap₂ (λ (p : List ℕ) (q : Table). p ∷ q) x.is l.is }

  encode : (m : List E) → All P m → list_all test (map slot m) ≡ true
  unfolding map
  encode [] a = refl
  encode (e ∷ m) a = rw (R.writes e a.0) (encode m a.1)

  keys_are : (m : List E) → All P m → keys_ok width (map slot m) ≡ true
  unfolding keys_ok map
  keys_are [] a = refl
  keys_are (e ∷ m) a = rw (R.keyed e a.0) (keys_are m a.1)

  rising_are : (m : List E) → All P m → rising (map slot m) ≡ rise ord (map key m)
  unfolding rising rising_from rise map
  rising_are [] a = refl
  rising_are (e ∷ []) a = refl
  rising_are (e ∷ (x ∷ m)) a =
      ap₂ both (R.ordered e x a.0 a.1.0) (rising_are (x ∷ m) a.1) ∙ tables.both_and (by (ord (key e) (key x)) true false false) (rise ord (map key (x ∷ m)))

  pub rows_yes : (limit : ℕ) (r : List ℕ) → length r ≡ 1 + limit * stride → WellFormed stride width limit r → list_all test (slots_of stride r) ≡ true → Held-in slot P key ord limit stride r
  rows_yes limit r l W e =
      let s : slots_of stride r ≡ W.t = ap (slots_of stride) W.is ∙ tables.slots_enc stride (length r) W.t W.sized in
      let d = decode W.t W.sized (ap (list_all test) (sym s) ∙ e) in
      let n : length W.t ≡ length d.rows = ap length d.is ∙ length-map slot d.rows in
      let f = W.few in
      record {
        rows = d.rows;
        small = omega arith;
        each = d.ok;
        rises = true_T (rise ord (map key d.rows)) (sym (rising_are d.rows d.ok) ∙ ap rising (sym d.is) ∙ W.sorted);
        bytes = W.is ∙ ap₂ enc_table l d.is;
      }

  module _ (limit : ℕ) (r : List ℕ) (H : Held-in slot P key ord limit stride r) where
    sized_are : Sized stride (map slot H.rows)
    sized_are = sized_rows slot stride P R.long H.rows H.each

    pub rows_table : WellFormed stride width limit r
    rows_table =
        let l : length r ≡ 1 + limit * stride = ap length H.bytes ∙ rows_long slot P limit stride R.long H.rows H.each H.small in
        record {
          t = map slot H.rows;
          is = H.bytes ∙ ap (λ (n : ℕ). enc_table n (map slot H.rows)) (sym l);
          sized = sized_are;
          few = subst (λ (n : ℕ). n ≤ limit) (sym (length-map slot H.rows)) H.small;
          keys = keys_are H.rows H.each;
          sorted = rising_are H.rows H.each ∙ T_true (rise ord (map key H.rows)) H.rises;
        }

    pub rows_slots : list_all test (slots_of stride r) ≡ true
    rows_slots = ap (list_all test) (ap (slots_of stride) H.bytes ∙ tables.slots_enc stride (1 + limit * stride) (map slot H.rows) sized_are) ∙ encode H.rows H.each

-- ---- slots that start with a name

turned_less : (o : Ordering) → is_less (flipped (turned o)) ≡ by o true false false
unfolding by
turned_less Ordering.lt = refl
turned_less Ordering.eq = refl
turned_less Ordering.gt = refl

less_name : (a b : Text) → is_less (order a b) ≡ by (by_name a b) true false false
unfolding by
less_name a b = ap is_less (name_order a b ∙ ap flipped (by_name_turned a b)) ∙ turned_less (by_name a b)

pub name_keyed : (name : Text) (x : List ℕ) → resource_id.Ok name → key_ok 33 (name_slot name ++ x) ≡ true
unfolding key_ok padded text max_id
name_keyed name x ok =
    let n : ℕ = length name in
    let l : length name ≤ 32 = ok.0 in
    let z : List ℕ = zeros (33 - suc n) in
    let i : suc n ≡ n + 1 = omega arith in
    let d : drop (n + 1) ((n ∷ (name ++ z)) ++ x) ≡ z ++ x =
    ap (λ (k : ℕ). drop k ((n ∷ (name ++ z)) ++ x)) (sym i) ∙ ap (drop n) (append_assoc name z x) ∙ drop_at name (z ++ x) n refl in
    let k : length z ≡ 33 - (n + 1) = length-replicate (33 - suc n) 0 ∙ ap (λ (j : ℕ). 33 - j) i in
    let t : take (33 - (n + 1)) (z ++ x) ≡ z = take_at z x (33 - (n + 1)) k in
    rw (lt-ltb n 33 (omega arith)) (ap (λ (y : List ℕ). all_zero (take (33 - (n + 1)) y)) d ∙ ap all_zero t ∙ tables.zeros_all_zero (33 - suc n))

-- a slot cut in two
cut : (m n : ℕ) (s : List ℕ) → length s ≡ m + n → s ≡ part 0 m s ++ part m n s
cut m n s l =
    let d : length (drop m s) ≤ n = let h = length-drop m s in omega arith in
    sym (take-append-drop m s) ∙ ap (λ (y : List ℕ). take m s ++ y) (sym (take_all n (drop m s) d))

cut_first : (m : ℕ) (a b : List ℕ) → length a ≡ m → part 0 m (a ++ b) ≡ a
cut_first m a b l = take_at a b m l

cut_second : (m n : ℕ) (a b : List ℕ) → length a ≡ m → length b ≡ n → part m n (a ++ b) ≡ b
cut_second m n a b l k = ap (take n) (drop_at a b m l) ∙ take_all n b (omega arith)

module _ {A : Type 0} {f : Format A} {n : ℕ} (F : Lawful f) (W : Within n f) where
  abbrev named_slot : Text × A → List ℕ
  named_slot e = name_slot e.0 ++ field n f e.1

  abbrev NamedOk : Text × A → Type 0
  NamedOk e = resource_id.Ok e.0 × f.Ok e.1

  named_long : (e : Text × A) → NamedOk e → length (named_slot e) ≡ 33 + n
  named_long e ok = length-append (name_slot e.0) (field n f e.1) ∙ ap₂ ◌+◌ (length_name e.0 ok.0) (length_field W e.1 ok.1)

  named_reads : (s : List ℕ) → length s ≡ 33 + n → is_named n f s ≡ true → Entry named_slot NamedOk s
  unfolding is_named
  named_reads s l e =
      let b = tables.both_true (filled resource_id (part 0 33 s)) (filled f (part 33 n s)) e in
      let k = field_yes resource_id_law 33 (part 0 33 s) (tables.part_length s 0 33 (omega arith)) b.0 in
      let x = field_yes F n (part 33 n s) (tables.part_length s 33 n (omega arith)) b.1 in
      record { entry = (k.value, x.value); ok = (k.ok, x.ok); is = cut 33 n s l ∙ ap₂ (λ (p q : List ℕ). p ++ q) k.bytes x.bytes }

  named_writes : (e : Text × A) → NamedOk e → is_named n f (named_slot e) ≡ true
  unfolding is_named
  named_writes e ok =
      let p : part 0 33 (named_slot e) ≡ name_slot e.0 = cut_first 33 (name_slot e.0) (field n f e.1) (length_name e.0 ok.0) in
      let q : part 33 n (named_slot e) ≡ field n f e.1 = cut_second 33 n (name_slot e.0) (field n f e.1) (length_name e.0 ok.0) (length_field W e.1 ok.1) in
      ap₂ both
      (field_no resource_id_law 33 (part 0 33 (named_slot e)) (record { value = e.0; ok = ok.0; bytes = p }))
      (field_no F n (part 33 n (named_slot e)) (record { value = e.1; ok = ok.1; bytes = q }))

  pub named_rows : Rows named_slot NamedOk (λ e. e.0) by_name (is_named n f) (33 + n) 33
  named_rows = record {
    long = named_long;
    reads = named_reads;
    writes = named_writes;
    keyed = λ e ok. name_keyed e.0 (field n f e.1) ok.0;
    ordered = λ a b p q. ap₂ (λ (x y : Text). is_less (order x y)) (text_name a.0 (field n f a.1)) (text_name b.0 (field n f b.1)) ∙ less_name a.0 b.0;
  }

-- ---- names alone

pub name_rows : Rows name_slot resource_id.Ok (λ s. s) by_name (filled resource_id) 33 33
name_rows = record {
  long = length_name;
  reads = λ s l e. let k = field_yes resource_id_law 33 s l e in record { entry = k.value; ok = k.ok; is = k.bytes };
  writes = λ e ok. field_no resource_id_law 33 (name_slot e) (record { value = e; ok = ok; bytes = refl });
  keyed = λ e ok. ap (key_ok 33) (sym (append-nil (name_slot e))) ∙ name_keyed e [] ok;
  ordered = λ a b p q. ap₂ (λ (x y : Text). is_less (order x y)) (text_name_only a) (text_name_only b) ∙ less_name a b;
}

-- ---- slots that start with a request number

less_number : (a b : ℕ) → a < 256 ^ 8 → b < 256 ^ 8 → is_less (order (big_endian 8 a) (big_endian 8 b)) ≡ by (by_number a b) true false false
unfolding by by_number
less_number a b p q = ap is_less (number_order a b p q ∙ ap flipped (compare_turned a b)) ∙ turned_less (compare a b)

abbrev FlightOk : ℕ × Purpose → Type 0
FlightOk e = u64.Ok e.0 × purpose_f.Ok e.1

flight_reads : (s : List ℕ) → length s ≡ 43 → is_flight s ≡ true → Entry flight_slot FlightOk s
unfolding is_flight number_key number
flight_reads [] l e = absurd (omega arith)
flight_reads (x ∷ s) l e =
    let b = tables.both_true (eqb x 8) _ e in
    let d = tables.both_true (filled u64 (part 1 8 (x ∷ s))) (filled purpose_f (part 9 34 (x ∷ s))) b.1 in
    let m : length s ≡ 42 = omega arith in
    let k = field_yes u64_law 8 (part 0 8 s) (tables.part_length s 0 8 (omega arith)) d.0 in
    let y = field_yes purpose_f_law 34 (part 8 34 s) (tables.part_length s 8 34 (omega arith)) d.1 in
    let c : s ≡ u64.enc k.value ++ field 34 purpose_f y.value = cut 8 34 s m ∙ ap₂ (λ (p q : List ℕ). p ++ q) (k.bytes ∙ number_is k.value) y.bytes in
    record { entry = (k.value, y.value); ok = (k.ok, y.ok); is = ap₂ (λ (p : ℕ) (q : List ℕ). p ∷ q) (eqb-true x 8 b.0) c }

flight_writes : (e : ℕ × Purpose) → FlightOk e → is_flight (flight_slot e) ≡ true
unfolding is_flight number_key number
flight_writes e ok =
    let l : length (field 34 purpose_f e.1) ≡ 34 = length_field purpose_within e.1 ok.1 in
    let p : part 1 8 (flight_slot e) ≡ big_endian 8 e.0 = cut_first 8 (big_endian 8 e.0) (field 34 purpose_f e.1) (length_digits 8 e.0) in
    let q : part 9 34 (flight_slot e) ≡ field 34 purpose_f e.1 = cut_second 8 34 (big_endian 8 e.0) (field 34 purpose_f e.1) (length_digits 8 e.0) l in
    ap₂ both
    (field_no u64_law 8 (part 1 8 (flight_slot e)) (record { value = e.0; ok = ok.0; bytes = p ∙ sym (number_is e.0) }))
    (field_no purpose_f_law 34 (part 9 34 (flight_slot e)) (record { value = e.1; ok = ok.1; bytes = q }))

flight_keyed : (e : ℕ × Purpose) → key_ok 9 (flight_slot e) ≡ true
unfolding key_ok number_key all_zero
flight_keyed e = refl

flight_ordered : (a b : ℕ × Purpose) → FlightOk a → FlightOk b → is_less (order (key-text (flight_slot a)) (key-text (flight_slot b))) ≡ by (by_number a.0 b.0) true false false
unfolding number
flight_ordered a b p q =
    ap₂ (λ (x y : List ℕ). is_less (order x y)) (text_number a.0 (field 34 purpose_f a.1)) (text_number b.0 (field 34 purpose_f b.1)) ∙ less_number a.0 b.0 p.0 q.0

pub flight_rows : Rows flight_slot FlightOk (λ e. e.0) by_number is_flight 43 9
flight_rows = record { long = flight_long; reads = flight_reads; writes = flight_writes; keyed = λ e ok. flight_keyed e; ordered = flight_ordered }

-- ---- maps and sets

module _ {K A : Type 0} {order : K → K → Ordering} {k : Format K} {f : Format A} {slot : K × A → List ℕ} {limit stride : ℕ} {b : List ℕ} where
  pub to_map : Held-in slot (λ e. k.Ok e.0 × f.Ok e.1) (λ e. e.0) order limit stride b → MapIn order k f slot limit stride b
  unfolding keys
  to_map H = record { entries = H.rows; held = record { small = H.small; each = H.each; rises = H.rises }; bytes = H.bytes }

  pub of_map : MapIn order k f slot limit stride b → Held-in slot (λ e. k.Ok e.0 × f.Ok e.1) (λ e. e.0) order limit stride b
  unfolding keys
  of_map M = record { rows = M.entries; small = M.held.small; each = M.held.each; rises = M.held.rises; bytes = M.bytes }

map_self : (s : List Text) → map (λ x. x) s ≡ s
unfolding map
map_self [] = refl
map_self (x ∷ s) = ap (λ (l : List Text). x ∷ l) (map_self s)

pub to_names : {limit : ℕ} {b : List ℕ} → Held-in name_slot resource_id.Ok (λ s. s) by_name limit 33 b → NamesIn limit b
to_names H = record { names = H.rows; held = record { small = H.small; each = H.each; rises = subst (λ (l : List Text). T (rise by_name l)) (map_self H.rows) H.rises }; bytes = H.bytes }

pub of_names : {limit : ℕ} {b : List ℕ} → NamesIn limit b → Held-in name_slot resource_id.Ok (λ s. s) by_name limit 33 b
of_names M = record { rows = M.names; small = M.held.small; each = M.held.each; rises = subst (λ (l : List Text). T (rise by_name l)) (sym (map_self M.names)) M.held.rises; bytes = M.bytes }
