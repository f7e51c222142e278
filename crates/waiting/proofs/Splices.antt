-- What is done to the slots, as done to the state: the laws of `Slots` and of one queue in another's place. Assumes nothing.
use Rattle.std.specs.Prelude.{Some}
use Rattle.format.proofs.Options.{Some-injective}
use Prim.Native.Nat.{ℕ, zero, suc, ◌+◌, ◌*◌, ◌≤◌, ◌<◌}
use native.Mathlib.Nat.{mul-le-mul_right, suc-mul}
use native.Mathlib.Omega.{arith}
use mathlib.Core.Path.{◌≡◌, sym, ap, ap₂, ◌∙◌, subst}
use mathlib.Core.List.{List, [], ◌∷◌, ◌++◌}
use lib.ListN.{length, take, drop, get_or, set, length-append}
use lib.Seq.{get_or-take, get_or-drop}
use Rattle.format.specs.Format.{All}
use Rattle.tables.specs.Table.{Table, flat, Sized, enc_table, text}
use Rattle.tables.specs.Table.{without as without-slot}
use Rattle.tables.proofs.Laws as tables
use Rattle.lent.specs.Lent.{part, placed, Lent}
use Rattle.model.specs.Seam.{ResourceId}
use Rattle.model.specs.State.{Pending, Queue, SyncState}
use Rattle.model.specs.Limits.{document01}
use Rattle.model.specs.Maps.{map}
use Rattle.model.specs.Formats.{resource_id}
use Rattle.model.proofs.Fitting.{all_append, length-map, map-append}
use Rattle.state.specs.Fits.{PendingFits}
use Rattle.state.specs.Contract.{Keeps, HasState, Reads}
use Rattle.state.proofs.Parts as parts
use Rattle.state.proofs.Regions.{edits_sized}
use Rattle.waiting.specs.Queues.{put_in, below, queue, put_queue, all_entries, nth, without, change_at}
use Rattle.waiting.specs.Slots.{Slots, HasSlots, ReadsSlots, tallied, inserted}
use Rattle.waiting.proofs.Cuts.{Slot, Rows, Flat, Cut, cut, flat_count, put_fits, tally_own, tally_before}
use Rattle.waiting.proofs.Lists as lists
use Rattle.std.specs.declared.cmp.Ordering.TheVariants.{Less, Equal}

-- ---- the slots of a buffer

pub few_long : (t : Table) → Sized 5940 t → length t ≤ 6 → length (flat t) + 1 ≤ 35641
few_long t z h =
    let a : length (flat t) ≡ length t * 5940 = tables.sized_length 5940 t z in
    let b : length t * 5940 ≤ 6 * 5940 = mul-le-mul_right 5940 h in
    omega arith

table_long : (t : Table) → Sized 5940 t → length t ≤ 6 → length (enc_table 35641 t) ≡ 35641
table_long t z h = tables.length_enc 35641 t (few_long t z h)

pub slots_part : {t : Table} {w₀ w : List ℕ} → Slots t w₀ w → part 20002 35641 w ≡ enc_table 35641 t
slots_part {t} {w₀} {w} S =
    let o = S.outer in
    ap (part 20002 35641) S.bytes ∙ lists.part_placed 20002 35641 (enc_table 35641 t) w₀ (omega arith) (table_long t S.sized S.few)

part_count : (w : List ℕ) (t : Table) → part 20002 35641 w ≡ enc_table 35641 t → get_or w 20002 0 ≡ length t
part_count w t e =
    sym (get_or-drop 20002 w 0 0) ∙ sym (get_or-take 35641 (drop 20002 w) 0 0 (omega arith)) ∙ ap (λ (x : List ℕ). get_or x 0 0) e ∙ tables.count_enc 35641 t

pub slots_of_lem : {s : SyncState} {w : List ℕ} → Keeps s w → Slots (Flat s.edits) w w
unfolding document01
slots_of_lem {s} {w} h =
    let e : part 20002 35641 w ≡ enc_table 35641 (Flat s.edits) = parts.edits_part s w h in
    record {
      bytes = sym (ap (λ (x : List ℕ). placed 20002 35641 x w) (sym e) ∙ lists.placed_self 20002 35641 w);
      sized = edits_sized document01 s.edits h.fits.edits.each;
      few = h.fits.edits.small;
      outer = h.long;
      long = h.long;
      count = part_count w (Flat s.edits) e;
    }

pub has_slots : {w : List ℕ} → HasState w → HasSlots w
has_slots {w} H = record { t = Flat H.state.edits; w₀ = w; slots = slots_of_lem H.keeps }

abbrev pub slots_tab : {t : Table} {w₀ w : List ℕ} → Slots t w₀ w → Lent 5940 20002 35641 w
slots_tab {t} {w₀} {w} S =
    let l = S.long in
    let n : length (part 20002 35641 w) ≡ 35641 = tables.part_length w 20002 35641 (omega arith) in
    let f = few_long t S.sized S.few in
    record {
      tab = record { t = t; is = slots_part S ∙ ap (λ (x : ℕ). enc_table x t) (sym n); sized = S.sized; some = omega arith; fits = omega arith };
      inside = omega arith;
    }

abbrev pub has_lent : {w : List ℕ} → HasSlots w → Lent 5940 20002 35641 w
has_lent H = slots_tab H.slots

-- other slots written over those of w
pub slots_next : {t : Table} {w₀ w : List ℕ} (u : Table) (w' : List ℕ) → Slots t w₀ w → Sized 5940 u → length u ≤ 6 → w' ≡ placed 20002 35641 (enc_table 35641 u) w → Slots u w₀ w'
slots_next {t} {w₀} {w} u w' S z h e =
    let o = S.outer in
    let l = S.long in
    let d : length (enc_table 35641 u) ≡ 35641 = table_long u z h in
    let b : w' ≡ placed 20002 35641 (enc_table 35641 u) w₀ =
    e ∙ ap (placed 20002 35641 (enc_table 35641 u)) S.bytes ∙ lists.placed_placed 20002 35641 (enc_table 35641 t) (enc_table 35641 u) w₀ (omega arith) (table_long t S.sized S.few) in
    let n : length w' ≡ length w = ap length e ∙ lists.length_placed 20002 35641 (enc_table 35641 u) w (omega arith) d in
    record {
      bytes = b;
      sized = z;
      few = h;
      outer = o;
      long = omega arith;
      count = part_count w' u (ap (part 20002 35641) e ∙ lists.part_placed 20002 35641 (enc_table 35641 u) w (omega arith) d);
    }

-- ---- one queue in another's place

abbrev pub cut_of : {s : SyncState} {w : List ℕ} (r : ResourceId) → Keeps s w → Cut r s.edits
cut_of {s} r h = cut r s.edits h.fits.edits.each h.fits.edits.rises

pub spliced : {s : SyncState} {w : List ℕ} (r : ResourceId) (q : Queue) (u : Table) (w' : List ℕ) (h : Keeps s w) → resource_id.Ok r → All (PendingFits document01 r) q
    → u ≡ (cut_of r h).pre ++ (Rows r q ++ (cut_of r h).post) → Slots u w w' → Keeps (put_queue r q s) w'
spliced {s} {w} r q u w' h k a e S =
    let C = cut_of r h in
    let d : Flat (put_in r q s.edits) ≡ u = C.put q ∙ sym e in
    subst (Keeps (put_queue r q s)) (sym (S.bytes ∙ ap (λ (t : Table). placed 20002 35641 (enc_table 35641 t) w) (sym d)))
    (parts.edits_put s w (put_in r q s.edits) h (put_fits r q s.edits h.fits.edits k a (subst (λ (t : Table). length t ≤ 6) (sym d) S.few)))

-- ---- reading

pub reads_own : (b w : List ℕ) (n : ℕ) (r : ResourceId) → text b ≡ r → ReadsSlots (tallied Equal b) w n → Reads (λ s. length (queue r s)) w n
reads_own b w n r e R = record { is = λ s h. R.is (Flat s.edits) w (slots_of_lem h) ∙ tally_own b r s.edits e (cut_of r h) }

pub reads_before : (b w : List ℕ) (n : ℕ) (r : ResourceId) → text b ≡ r → ReadsSlots (tallied Less b) w n → Reads (λ s. below r s.edits) w n
reads_before b w n r e R = record { is = λ s h. R.is (Flat s.edits) w (slots_of_lem h) ∙ tally_before b r s.edits e (cut_of r h) }

pub reads_all : (w : List ℕ) (n : ℕ) → n ≡ get_or w 20002 0 → Reads all_entries w n
reads_all w n e = record { is = λ s h. e ∙ (slots_of_lem h).count ∙ flat_count s.edits }

-- ---- one slot

pub slot_in : {t : Table} {w₀ w : List ℕ} (k : ℕ) → Slots t w₀ w → k < length t → (take 5940 (drop (20002 + (1 + k * 5940)) w) ≡ get_or t k []) × (20002 + (1 + k * 5940) + 5940 ≤ 55643)
slot_in {t} {w₀} {w} k S h =
    let f = S.few in
    let g : suc k ≤ 6 = omega arith in
    let a : suc k * 5940 ≤ 6 * 5940 = mul-le-mul_right 5940 g in
    let b : suc k * 5940 ≡ k * 5940 + 5940 = suc-mul k 5940 in (
      tables.field_of w 35641 20002 (1 + k * 5940) 5940 (omega arith) ∙ ap (λ (x : List ℕ). take 5940 (drop (1 + k * 5940) x)) (slots_part S) ∙ tables.slot_at 5940 35641 k t S.sized h,
      omega arith,
    )

module _ {s : SyncState} {w : List ℕ} (r : ResourceId) (h : Keeps s w) where
  pub rows_count : length (Flat s.edits) ≡ below r s.edits + (length (queue r s) + length (cut_of r h).post)
  rows_count =
      let C = cut_of r h in
      let q : Queue = queue r s in
      ap length C.is ∙ length-append C.pre (Rows r q ++ C.post) ∙ ap₂ ◌+◌ C.first (length-append (Rows r q) C.post ∙ ap (λ (n : ℕ). n + length C.post) (length-map (Slot r) q))

  -- the slot of entry j
  pub row_of : (j : ℕ) (p : Pending) → nth j (queue r s) ≡ Some p → j < length (queue r s) → get_or (Flat s.edits) (below r s.edits + j) [] ≡ Slot r p
  row_of j p e l =
      let C = cut_of r h in
      let q : Queue = queue r s in
      let n : length (Rows r q) ≡ length q = length-map (Slot r) q in
      ap₂ (λ (t : Table) (i : ℕ). get_or t (i + j) []) C.is (sym C.first) ∙ lists.at_mid C.pre (Rows r q) C.post j [] (omega arith) ∙ lists.nth_row (Slot r) j q p e

-- ---- what is done to a queue

all_change : (P : Pending → Type 0) (g : Pending → Pending) (j : ℕ) (q : Queue) (p : Pending) → nth j q ≡ Some p → P (g p) → All P q → All P (change_at j g q)
unfolding nth change_at
all_change P g j [] p e f a = tt
all_change P g zero (x ∷ q) p e f a = (subst (λ (y : Pending). P (g y)) (sym (Some-injective x p e)) f, a.1)
all_change P g (suc j) (x ∷ q) p e f a = (a.0, all_change P g j q p e f a.1)

all_take : {A : Type 0} (P : A → Type 0) (j : ℕ) (q : List A) → All P q → All P (take j q)
all_take P zero q a = tt
all_take P (suc j) [] a = tt
all_take P (suc j) (x ∷ q) a = (a.0, all_take P j q a.1)

all_drop : {A : Type 0} (P : A → Type 0) (j : ℕ) (q : List A) → All P q → All P (drop j q)
all_drop P zero q a = a
all_drop P (suc j) [] a = tt
all_drop P (suc j) (x ∷ q) a = all_drop P j q a.1

module _ {s : SyncState} {w : List ℕ} (r : ResourceId) (k : resource_id.Ok r) (h : Keeps s w) (w' : List ℕ) where
  pub kept : (q : Queue) → q ≡ queue r s → Keeps (put_queue r q s) w
  kept q e = subst (λ (x : Queue). Keeps (put_queue r x s) w) (sym e) (spliced r (queue r s) (Flat s.edits) w h k (cut_of r h).own (cut_of r h).is (slots_of_lem h))

  pub removed : (j : ℕ) → j < length (queue r s) → Slots (without-slot (below r s.edits + j) (Flat s.edits)) w w' → Keeps (put_queue r (without j (queue r s)) s) w'
  unfolding without without-slot
  removed j l S =
      let C = cut_of r h in
      let q : Queue = queue r s in
      let n : length (Rows r q) ≡ length q = length-map (Slot r) q in
      let P : Pending → Type 0 = PendingFits document01 r in
      spliced r (without j q) (without-slot (below r s.edits + j) (Flat s.edits)) w' h k (all_append P (take j q) (drop (suc j) q) (all_take P j q C.own) (all_drop P (suc j) q C.own))
      (ap₂ (λ (t : Table) (i : ℕ). take (i + j) t ++ drop (suc (i + j)) t) C.is (sym C.first) ∙ lists.out_of C.pre (Rows r q) C.post j (omega arith)
      ∙ ap (λ (t : Table). C.pre ++ (t ++ C.post)) (sym (lists.map_without (Slot r) j q))) S

  pub changed : (j : ℕ) (g : Pending → Pending) (p : Pending) → nth j (queue r s) ≡ Some p → j < length (queue r s) → PendingFits document01 r (g p)
      → Slots (set (Flat s.edits) (below r s.edits + j) (Slot r (g p))) w w' → Keeps (put_queue r (change_at j g (queue r s)) s) w'
  changed j g p e l f S =
      let C = cut_of r h in
      let q : Queue = queue r s in
      let n : length (Rows r q) ≡ length q = length-map (Slot r) q in
      spliced r (change_at j g q) (set (Flat s.edits) (below r s.edits + j) (Slot r (g p))) w' h k (all_change (PendingFits document01 r) g j q p e f C.own)
      (ap₂ (λ (t : Table) (i : ℕ). set t (i + j) (Slot r (g p))) C.is (sym C.first) ∙ lists.set_in C.pre (Rows r q) C.post j (Slot r (g p)) (omega arith)
      ∙ ap (λ (t : Table). C.pre ++ (t ++ C.post)) (sym (lists.map_change (Slot r) g j q p e))) S

  pub appended : (p : Pending) → PendingFits document01 r p → Slots (inserted (below r s.edits + length (queue r s)) (Slot r p) (Flat s.edits)) w w'
      → Keeps (put_queue r (queue r s ++ p ∷ []) s) w'
  unfolding map
  appended p f S =
      let C = cut_of r h in
      let q : Queue = queue r s in
      let n : length q ≡ length (Rows r q) = sym (length-map (Slot r) q) in
      spliced r (q ++ p ∷ []) (inserted (below r s.edits + length q) (Slot r p) (Flat s.edits)) w' h k (all_append (PendingFits document01 r) q (p ∷ []) C.own (f, tt))
      (ap (λ (t : Table). inserted (below r s.edits + length q) (Slot r p) t) C.is ∙ ap₂ (λ (i m : ℕ). inserted (i + m) (Slot r p) (C.pre ++ (Rows r q ++ C.post))) (sym C.first) n
      ∙ lists.behind C.pre (Rows r q) C.post (Slot r p)
      ∙ ap (λ (t : Table). C.pre ++ (t ++ C.post)) (sym (map-append (Slot r) q (p ∷ [])))) S
