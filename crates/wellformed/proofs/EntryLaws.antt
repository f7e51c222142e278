-- The region of the waiting entries: its slots are entries that fit, and the runs of one resource are the queues. Assumes nothing.
use Prim.Native.Nat.{ℕ, suc, ◌+◌, ◌-◌, ◌*◌, ◌≤◌, Ordering}
use native.Mathlib.Nat.{mul-le-mul_right}
use native.Mathlib.Omega.{arith}
use mathlib.Core.Path.{◌≡◌, refl, sym, ap, ap₂, ◌∙◌, subst}
use mathlib.Core.List.{List, [], ◌∷◌, ◌++◌, append-nil}
use mathlib.Core.Bool.{Bool, true, false}
use lib.ListN.{length, get_or, length-append}
use lib.Dec.{T, compare_is_eq}
use Rattle.format.specs.Format.{Got, Format, Lawful, All, ◌⊗◌, option, list, stamp, bool, concat_map}
use Rattle.format.specs.Format.{padded as in-width}
use Rattle.format.proofs.FormatLaws.{pair_law, option_law, stamp_law, bool_law, list_law, padded_law}
use Rattle.format.proofs.SizeLaws.{Within, pair_within, list_within, bool_within}
use Rattle.std.specs.Prelude.{Option, Some, None, is_some}
use Rattle.std.specs.Ordering.{is_le}
use Rattle.spans.specs.Bytes.{zeros, both}
use Rattle.spans.specs.Compare.{order}
use Rattle.std.specs.declared.cmp.Ordering.TheVariants.{Greater}
use Rattle.tables.specs.Table.{Table, flat, Sized, enc_table, slots_of, Holds, text}
use Rattle.tables.proofs.Laws as tables
use Rattle.model.specs.Seam.{ResourceId}
use Rattle.model.specs.State.{Map, Pending, Queue}
use Rattle.model.specs.Limits.{document01}
use Rattle.model.specs.Maps.{when◌then◌else◌, by, by_name, same_text, map, keys}
use Rattle.model.specs.Formats.{resource_id, short_text, operation_f, role_f, conflicts_f, refusals_f}
use Rattle.model.specs.WellFormed.{rising}
use Rattle.model.proofs.FormatsLaws.{resource_id_law, short_text_law, operation_f_law, role_f_law, conflicts_f_law, refusals_f_law}
use Rattle.model.proofs.Tables.{turned, by_name_self, by_name_turned, is_lt, and_left, and_right, and_both, same_is}
use Rattle.model.proofs.Fitting.{length-map}
use Rattle.state.specs.Layout.{padded, field, pending_slot, edit_slots}
use Rattle.state.specs.Fits.{PendingFits, QueueFits}
use Rattle.state.proofs.Widths.{name_within, text_33, operation_within, role_within, time_within, absorbed_within}
use Rattle.state.proofs.Padded.{length_padded, text_name}
use Rattle.state.proofs.Orders.{flipped, name_order}
use Rattle.state.proofs.Rows.{sized_rows}
use Rattle.state.proofs.Regions.{bool_ok, pending_long, Entries, entries_of, entries, put_first, queues, entry_slot, EntryFits, edit_rows, entries_fit}
use Rattle.reader.specs.Left.{left, after, past}
use Rattle.reader.specs.declared.Reader.{Reader}
use Rattle.strides.specs.Walk.{neighbours_from, neighbours}
use Rattle.wellformed.specs.Entries.{Entry, entry_f, entries_f, in_order, ordered, QueuesIn}

-- ---- an entry is read field by field

pub entry_f_law : Lawful entry_f
unfolding entry_f
entry_f_law =
    pair_law (padded_law resource_id_law 33) (pair_law (padded_law short_text_law 33) (pair_law (padded_law operation_f_law 1469) (pair_law (padded_law role_f_law 34) (pair_law (padded_law (option_law stamp_law) 9)
    (pair_law (padded_law conflicts_f_law 3072) (pair_law (padded_law refusals_f_law 1024) (pair_law (padded_law bool_law 1) (padded_law (list_law short_text_law 8) 265))))))))

entries_f_law : Lawful entries_f
unfolding entries_f
entries_f_law = padded_law (list_law entry_f_law 6) 35641

-- ---- the fields of an entry, and the entry of its fields

abbrev entry_of : Entry → ResourceId × Pending
entry_of (r, (id, (op, (role, (exp, (con, (ref, (col, abs)))))))) =
    (r, record { edit = record { id = id; resource = r; operation = op; role = role; expires_at = exp }; conflicts = con; refused = ref; collided = col; absorbed = abs })

abbrev fields_of : ResourceId × Pending → Entry
fields_of (r, p) = (r, (p.edit.id, (p.edit.operation, (p.edit.role, (p.edit.expires_at, (p.conflicts, (p.refused, (p.collided, p.absorbed))))))))

slot_of : (v : Entry) → entry_f.enc v ≡ entry_slot document01 (entry_of v)
unfolding entry_f in-width padded ◌⊗◌ pending_slot document01
slot_of v = refl

slot_back : (x : ResourceId × Pending) → entry_f.enc (fields_of x) ≡ entry_slot document01 x
unfolding entry_f in-width padded ◌⊗◌ pending_slot document01
slot_back x = refl

fits_of : (v : Entry) → entry_f.Ok v → EntryFits document01 (entry_of v)
unfolding entry_f in-width ◌⊗◌ document01
fits_of v ok = (
  ok.0.0,
  record {
    resource_is = refl;
    id = ok.1.0.0;
    operation = ok.1.1.0.0;
    role = ok.1.1.1.0.0;
    expires_at = ok.1.1.1.1.0.0;
    conflicts = ok.1.1.1.1.1.0.0;
    conflict_bytes = ok.1.1.1.1.1.0.1;
    refused = ok.1.1.1.1.1.1.0.0;
    refused_bytes = ok.1.1.1.1.1.1.0.1;
    absorbed = ok.1.1.1.1.1.1.1.1.0;
  },
)

fits_back : (x : ResourceId × Pending) → EntryFits document01 x → entry_f.Ok (fields_of x)
unfolding entry_f in-width ◌⊗◌ document01
fits_back (r, p) (k, h) = (
  (k, name_within.bytes r k),
  (
    (h.id, text_33.bytes p.edit.id h.id),
    (
      (h.operation, operation_within.bytes p.edit.operation h.operation),
      (
        (h.role, role_within.bytes p.edit.role h.role),
        (
          (h.expires_at, time_within.bytes p.edit.expires_at h.expires_at),
          (
            (h.conflicts, h.conflict_bytes),
            (
              (h.refused, h.refused_bytes),
              ((bool_ok p.collided, bool_within.bytes p.collided (bool_ok p.collided)), (h.absorbed, (absorbed_within document01).bytes p.absorbed h.absorbed)),
            ),
          ),
        ),
      ),
    ),
  ),
)

-- ---- the region's slots

-- a list of values in a width is a table of their bytes
pub table_of : {A : Type 0} (f : Format A) (n w : ℕ) (vs : List A) → field w (list n f) vs ≡ enc_table w (map f.enc vs)
unfolding padded list enc_table map
table_of {A} f n w vs =
    let e : concat_map f.enc vs ≡ flat (map f.enc vs) = joined vs in
    let l : length vs ≡ length (map f.enc vs) = sym (length-map f.enc vs) in
    let k : w - suc (length (concat_map f.enc vs)) ≡ w - 1 - length (flat (map f.enc vs)) = let m = ap length e in omega arith in
    ap₂ (λ (x : ℕ) (y : List ℕ). x ∷ y) l (ap₂ (λ (x : List ℕ) (y : ℕ). x ++ zeros y) e k)
  where
    joined : (vs : List A) → concat_map f.enc vs ≡ flat (map f.enc vs)
    joined [] = refl
    joined (v ∷ vs) = ap (λ (x : List ℕ). f.enc v ++ x) (joined vs)

-- entries that fit, whose slots the region holds
pub record Slots (b : List ℕ) : Type 0 where
  pub l : Entries
  pub small : length l ≤ 6
  pub each : All (EntryFits document01) l
  pub bytes : b ≡ enc_table 35641 (map (entry_slot document01) l)

sized_entries : (l : Entries) → All (EntryFits document01) l → Sized 5940 (map (entry_slot document01) l)
unfolding document01
sized_entries l a = sized_rows (entry_slot document01) 5940 (EntryFits document01) (λ x h. pending_long document01 x.0 h.0 x.1 h.1) l a

rows_of : (vs : List Entry) → map entry_f.enc vs ≡ map (entry_slot document01) (map entry_of vs)
unfolding map
rows_of [] = refl
rows_of (v ∷ vs) = ap₂ (λ (x : List ℕ) (y : Table). x ∷ y) (slot_of v) (rows_of vs)

rows_back : (l : Entries) → map entry_f.enc (map fields_of l) ≡ map (entry_slot document01) l
unfolding map
rows_back [] = refl
rows_back (x ∷ l) = ap₂ (λ (x : List ℕ) (y : Table). x ∷ y) (slot_back x) (rows_back l)

all_of : (vs : List Entry) → All entry_f.Ok vs → All (EntryFits document01) (map entry_of vs)
unfolding map
all_of [] a = tt
all_of (v ∷ vs) a = (fits_of v a.0, all_of vs a.1)

all_back : (l : Entries) → All (EntryFits document01) l → All entry_f.Ok (map fields_of l)
unfolding map
all_back [] a = tt
all_back (x ∷ l) a = (fits_back x a.0, all_back l a.1)

no_more : (a b t : List ℕ) → b ≡ a ++ t → length a ≡ length b → b ≡ a
no_more a b [] e h = e ∙ append-nil a
no_more a b (x ∷ t) e h = absurd (let l : length b ≡ length a + suc (length t) = ap length e ∙ length-append a (x ∷ t) in omega arith)

in_width_within : {A : Type 0} (w : ℕ) (f : Format A) → Within w (in-width w f)
unfolding in-width padded
in_width_within w f = record { bytes = λ a ok. let l = length_padded w (f.enc a) ok.1 in omega arith }

entry_within : Within 5940 entry_f
unfolding entry_f
entry_within =
    pair_within (in_width_within 33 resource_id) (pair_within (in_width_within 33 short_text) (pair_within (in_width_within 1469 operation_f) (pair_within (in_width_within 34 role_f) (pair_within (in_width_within 9 (option stamp))
    (pair_within (in_width_within 3072 conflicts_f) (pair_within (in_width_within 1024 refusals_f) (pair_within (in_width_within 1 bool) (in_width_within 265 (list 8 short_text)))))))))

left_some : (o : Option Reader) → is_some (left o) ≡ is_some o
left_some None = refl
left_some (Some r) = refl

-- whether the walk past the region came to its end
pub walked : (s : List ℕ) (o : Option Reader) {r : Bool} → left o ≡ after entries_f s → r ≡ is_some o → r ≡ is_some (after entries_f s)
walked s o e h = h ∙ sym (left_some o) ∙ ap is_some e

-- what was read, where something is left behind it
record Read {A : Type 0} (f : Format A) (s : List ℕ) : Type 0 where
  value : A
  rest : List ℕ
  is : f.dec s ≡ Some (value, rest)

read_of : {A : Type 0} (f : Format A) (s : List ℕ) → is_some (after f s) ≡ true → Read f s
unfolding after
read_of {A} f s = go (f.dec s) refl
  where
    go : (x : Got A) → f.dec s ≡ x → is_some (past x) ≡ true → Read f s
    go None q h = absurd (tables.false_true h)
    go (Some r) q h = record { value = r.0; rest = r.1; is = q }

pub slots_yes : (b : List ℕ) → length b ≡ 35641 → is_some (after entries_f b) ≡ true → Slots b
unfolding entries_f in-width padded list
slots_yes b h k =
    let g = read_of entries_f b k in
    let r = entries_f_law.reads b (g.value, g.rest) g.is in
    let vs : List Entry = g.value in
    let n : length (entries_f.enc vs) ≡ 35641 = length_padded 35641 ((list 6 entry_f).enc vs) r.1.1 in
    let w : b ≡ entries_f.enc vs = no_more (entries_f.enc vs) b g.rest r.0 (n ∙ sym h) in
    record {
      l = map entry_of vs;
      small = subst (λ (x : ℕ). x ≤ 6) (sym (length-map entry_of vs)) r.1.0.0;
      each = all_of vs r.1.0.1;
      bytes = w ∙ table_of entry_f 6 35641 vs ∙ ap (enc_table 35641) (rows_of vs);
    }

pub slots_no : (b : List ℕ) → Slots b → is_some (after entries_f b) ≡ true
unfolding after entries_f in-width padded list
slots_no b S =
    let vs : List Entry = map fields_of S.l in
    let w : b ≡ entries_f.enc vs = S.bytes ∙ ap (enc_table 35641) (sym (rows_back S.l)) ∙ sym (table_of entry_f 6 35641 vs) in
    let t : b ≡ entries_f.enc vs ++ [] = w ∙ sym (append-nil (entries_f.enc vs)) in
    let small : length vs ≤ 6 = subst (λ (x : ℕ). x ≤ 6) (sym (length-map fields_of S.l)) S.small in
    let few : length ((list 6 entry_f).enc vs) ≤ 35641 = (list_within 6 entry_within).bytes vs (small, all_back S.l S.each) in
    ap (λ (x : Got (List Entry)). is_some (past x)) (ap entries_f.dec t ∙ entries_f_law.writes vs ((small, all_back S.l S.each), few) [])

slots_are : (b : List ℕ) (S : Slots b) → slots_of 5940 b ≡ map (entry_slot document01) S.l
slots_are b S = ap (slots_of 5940) S.bytes ∙ tables.slots_enc 5940 35641 (map (entry_slot document01) S.l) (sized_entries S.l S.each)

pub slots_hold : (b : List ℕ) → length b ≡ 35641 → Slots b → Holds 5940 b
slots_hold b h S =
    let n : get_or b 0 0 ≡ length S.l = ap (λ (x : List ℕ). get_or x 0 0) S.bytes ∙ tables.count_enc 35641 (map (entry_slot document01) S.l) ∙ length-map (entry_slot document01) S.l in
    let k = S.small in
    let j : get_or b 0 0 ≤ 6 = omega arith in
    let m : get_or b 0 0 * 5940 ≤ 6 * 5940 = mul-le-mul_right 5940 j in
    (omega arith, omega arith)

-- ---- runs of one resource are the queues

text_is : (x : ResourceId × Pending) → text (entry_slot document01 x) ≡ x.0
unfolding pending_slot
text_is x = text_name x.0 _

-- one resource does not come after another
abbrev before : ResourceId → ResourceId → Bool
before a b = is_le (order a b)

abbrev ordered_from : List ℕ → Table → Bool
ordered_from = neighbours_from in_order

from_next : (x y : ResourceId × Pending) (l : Entries) → ordered_from (entry_slot document01 x) (map (entry_slot document01) (y ∷ l)) ≡ both (before x.0 y.0) (ordered_from (entry_slot document01 y) (map (entry_slot document01) l))
unfolding neighbours_from map
from_next x y l = rw (text_is x, text_is y)

put_entries : (x : ResourceId × Pending) (m : Map ResourceId Queue) → entries (put_first x m) ≡ x ∷ entries m
unfolding when◌then◌else◌
put_entries x [] = refl
put_entries x (e ∷ m) = go (same_text x.0 e.0) refl
  where
    go : (b : Bool) → same_text x.0 e.0 ≡ b → entries (when b then (e.0, x.1 ∷ e.1) ∷ m else (x.0, x.1 ∷ []) ∷ e ∷ m) ≡ x ∷ entries (e ∷ m)
    go true s = ap (λ (r : ResourceId). (r, x.1) ∷ (entries_of e.0 e.1 ++ entries m)) (sym (same_is x.0 e.0 (subst T (sym s) tt)))
    go false s = refl

entries_queues : (l : Entries) → entries (queues l) ≡ l
entries_queues [] = refl
entries_queues (x ∷ l) = put_entries x (queues l) ∙ ap (λ (y : Entries). x ∷ y) (entries_queues l)

put_fits : (x : ResourceId × Pending) (m : Map ResourceId Queue) → EntryFits document01 x → All (QueueFits document01) m → All (QueueFits document01) (put_first x m)
unfolding when◌then◌else◌
put_fits x [] h a = (record { key = h.0; some = omega arith; each = (h.1, tt) }, tt)
put_fits x (e ∷ m) h a = go (same_text x.0 e.0) refl
  where
    go : (b : Bool) → same_text x.0 e.0 ≡ b → All (QueueFits document01) (when b then (e.0, x.1 ∷ e.1) ∷ m else (x.0, x.1 ∷ []) ∷ e ∷ m)
    go true s =
        (record { key = a.0.key; some = omega arith; each = (subst (λ (r : ResourceId). PendingFits document01 r x.1) (same_is x.0 e.0 (subst T (sym s) tt)) h.1, a.0.each) }, a.1)
    go false s = (record { key = h.0; some = omega arith; each = (h.1, tt) }, a)

queues_fit : (l : Entries) → All (EntryFits document01) l → All (QueueFits document01) (queues l)
queues_fit [] a = tt
queues_fit (x ∷ l) a = put_fits x (queues l) a.0 (queues_fit l a.1)

-- the first queue is that of the first entry
record Led (r : ResourceId) (m : Map ResourceId Queue) : Type 0 where
  queue : Queue
  rest : Map ResourceId Queue
  is : m ≡ (r, queue) ∷ rest

put_led : (x : ResourceId × Pending) (m : Map ResourceId Queue) → Led x.0 (put_first x m)
unfolding when◌then◌else◌
put_led x [] = record { queue = x.1 ∷ []; rest = []; is = refl }
put_led x (e ∷ m) = go (same_text x.0 e.0) refl
  where
    go : (b : Bool) → same_text x.0 e.0 ≡ b → Led x.0 (when b then (e.0, x.1 ∷ e.1) ∷ m else (x.0, x.1 ∷ []) ∷ e ∷ m)
    go true s = record { queue = x.1 ∷ e.1; rest = m; is = ap (λ (r : ResourceId). (r, x.1 ∷ e.1) ∷ m) (sym (same_is x.0 e.0 (subst T (sym s) tt))) }
    go false s = record { queue = x.1 ∷ []; rest = e ∷ m; is = refl }

-- not after and not the same is before
strictly : (a b : ResourceId) → before a b ≡ true → same_text a b ≡ false → by_name a b ≡ Ordering.lt
unfolding same_text
strictly a b h s = go (by_name a b) refl
  where
    go : (o : Ordering) → by_name a b ≡ o → o ≡ Ordering.lt
    go Ordering.lt e = refl
    go Ordering.eq e = absurd (tables.false_true (sym s ∙ ap compare_is_eq e))
    go Ordering.gt e =
        let t : by_name b a ≡ Ordering.lt = by_name_turned a b ∙ ap turned e in
        let o : order a b ≡ Greater = name_order a b ∙ ap flipped t in
        absurd (tables.false_true (sym (ap is_le o) ∙ h))

put_rises : (x : ResourceId × Pending) (r : ResourceId) (q : Queue) (m : Map ResourceId Queue) → before x.0 r ≡ true → T (rising by_name (keys ((r, q) ∷ m))) → T (rising by_name (keys (put_first x ((r, q) ∷ m))))
unfolding when◌then◌else◌ keys map rising by
put_rises x r q m h t = go (same_text x.0 r) refl
  where
    go : (b : Bool) → same_text x.0 r ≡ b → T (rising by_name (keys (when b then (r, x.1 ∷ q) ∷ m else (x.0, x.1 ∷ []) ∷ (r, q) ∷ m)))
    go true s = t
    go false s = and_both (by (by_name x.0 r) true false false) _ (subst (λ (o : Ordering). T (by o true false false)) (sym (strictly x.0 r h s)) tt) t

rise_none : T (rising by_name (keys (queues [])))
unfolding rising keys map
rise_none = tt

rise_one : (r : ResourceId) (q : Queue) → T (rising by_name (keys ((r, q) ∷ [])))
unfolding rising keys map
rise_one r q = tt

ordered_none : ordered (map (entry_slot document01) []) ≡ true
unfolding neighbours map
ordered_none = refl

ordered_from_lem : (x : ResourceId × Pending) (l : Entries) → ordered (map (entry_slot document01) (x ∷ l)) ≡ ordered_from (entry_slot document01 x) (map (entry_slot document01) l)
unfolding neighbours map
ordered_from_lem x l = refl

rising_keys : (r : ResourceId) (q : Queue) (m : Map ResourceId Queue) → T (rising by_name (keys ((r, q) ∷ m))) → T (rising by_name (r ∷ keys m))
unfolding keys map
rising_keys r q m t = t

queues_rise : (x : ResourceId × Pending) (l : Entries) → ordered_from (entry_slot document01 x) (map (entry_slot document01) l) ≡ true → T (rising by_name (keys (queues (x ∷ l))))
queues_rise x [] h = rise_one x.0 (x.1 ∷ [])
queues_rise x (y ∷ l) h =
    let k = tables.both_true (before x.0 y.0) (ordered_from (entry_slot document01 y) (map (entry_slot document01) l)) (sym (from_next x y l) ∙ h) in
    let i : T (rising by_name (keys (queues (y ∷ l)))) = queues_rise y l k.1 in
    let L = put_led y (queues l) in
    subst (λ (m : Map ResourceId Queue). T (rising by_name (keys (put_first x m)))) (sym L.is)
    (put_rises x y.0 L.queue L.rest k.0 (subst (λ (m : Map ResourceId Queue). T (rising by_name (keys m))) L.is i))

pub edits_in : (b : List ℕ) → Slots b → (r : Bool) → r ≡ ordered (slots_of 5940 b) → r ≡ true → QueuesIn b
unfolding document01
edits_in b S r e h =
    let m : Map ResourceId Queue = queues S.l in
    let w : edit_slots document01 m ≡ map (entry_slot document01) S.l = sym (edit_rows document01 m) ∙ ap (map (entry_slot document01)) (entries_queues S.l) in
    record {
      edits = m;
      fit = record {
        small = subst (λ (n : ℕ). n ≤ 6) (sym (ap length w ∙ length-map (entry_slot document01) S.l)) S.small;
        each = queues_fit S.l S.each;
        rises = rise S.l (sym (ap ordered (slots_are b S)) ∙ sym e ∙ h);
      };
      bytes = S.bytes ∙ ap (enc_table 35641) (sym w);
    }
  where
    rise : (l : Entries) → ordered (map (entry_slot document01) l) ≡ true → T (rising by_name (keys (queues l)))
    rise [] h = rise_none
    rise (x ∷ l) h = queues_rise x l (sym (ordered_from_lem x l) ∙ h)

-- ---- and back

pub slots_in : (b : List ℕ) → QueuesIn b → Slots b
unfolding document01
slots_in b E = record {
  l = entries E.edits;
  small = subst (λ (n : ℕ). n ≤ 6) (sym (ap length (edit_rows document01 E.edits)) ∙ length-map (entry_slot document01) (entries E.edits)) E.fit.small;
  each = entries_fit document01 E.edits E.fit.each;
  bytes = E.bytes ∙ ap (enc_table 35641) (sym (edit_rows document01 E.edits));
}

before_self : (r : ResourceId) → before r r ≡ true
before_self r = ap is_le (name_order r r ∙ ap flipped (by_name_self r))

before_less : (a b : ResourceId) → by_name a b ≡ Ordering.lt → before a b ≡ true
before_less a b e = ap is_le (name_order a b ∙ ap flipped (by_name_turned a b ∙ ap turned e))

both_of : (a b : Bool) → a ≡ true → b ≡ true → both a b ≡ true
both_of a b p q = rw (p, q)

-- the rest of a queue, and the queues behind it
queue_ordered : (r : ResourceId) (p : Pending) (q : Queue) (l : Entries) → ((p : Pending) → ordered_from (entry_slot document01 (r, p)) (map (entry_slot document01) l) ≡ true)
    → ordered_from (entry_slot document01 (r, p)) (map (entry_slot document01) (entries_of r q ++ l)) ≡ true
queue_ordered r p [] l f = f p
queue_ordered r p (p' ∷ q) l f =
    from_next (r, p) (r, p') (entries_of r q ++ l) ∙ both_of _ _ (before_self r) (queue_ordered r p' q l f)

edits_ordered : (r : ResourceId) (p : Pending) (m : Map ResourceId Queue) → All (QueueFits document01) m → T (rising by_name (r ∷ keys m)) → ordered_from (entry_slot document01 (r, p)) (map (entry_slot document01) (entries m)) ≡ true
unfolding keys map rising neighbours_from
edits_ordered r p [] a t = refl
edits_ordered r p ((k, []) ∷ m) a t = absurd (let h = a.0.some in omega arith)
edits_ordered r p ((k, p' ∷ q) ∷ m) a t =
    let l : by_name r k ≡ Ordering.lt = is_lt (by_name r k) (and_left (by (by_name r k) true false false) _ t) in
    let u : T (rising by_name (k ∷ keys m)) = and_right (by (by_name r k) true false false) _ t in
    from_next (r, p) (k, p') (entries_of k q ++ entries m) ∙ both_of _ _ (before_less r k l) (queue_ordered k p' q (entries m) (λ p. edits_ordered k p m a.1 u))

pub edits_order : (b : List ℕ) (E : QueuesIn b) → ordered (slots_of 5940 b) ≡ true
unfolding slots_in
edits_order b E = ap ordered (slots_are b (slots_in b E)) ∙ go E.edits E.fit.each E.fit.rises
  where
    go : (m : Map ResourceId Queue) → All (QueueFits document01) m → T (rising by_name (keys m)) → ordered (map (entry_slot document01) (entries m)) ≡ true
    go [] a t = ordered_none
    go ((k, []) ∷ m) a t = absurd (let h = a.0.some in omega arith)
    go ((k, p ∷ q) ∷ m) a t = ordered_from_lem (k, p) (entries_of k q ++ entries m) ∙ queue_ordered k p q (entries m) (λ x. edits_ordered k x m a.1 (rising_keys k (p ∷ q) m t))
