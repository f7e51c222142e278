-- Writes to the slots: what each does to their bytes is what it does to their list. Assumes nothing.
use Prim.Native.Nat.{ℕ, zero, suc, ◌+◌, ◌-◌, ◌*◌, ◌≤◌, ◌<◌}
use native.Mathlib.Nat.{mul-le-mul_right}
use native.Mathlib.Omega.{arith}
use mathlib.Core.Path.{◌≡◌, sym, ap, ap₂, ◌∙◌, subst}
use mathlib.Core.List.{List, [], ◌∷◌, ◌++◌, append_assoc}
use lib.ListN.{length, take, drop, get_or, set, length-append, length-set, length-drop, length-replicate, take-append-drop}
use lib.Seq.{get_or-set_same, set-set, set_split, split_at, length-take-le, take_at, drop_at, drop-drop, drop-append-le}
use Rattle.spans.specs.Bytes.{zeros}
use Rattle.spans.proofs.Laws.{drop_zeros}
use Rattle.tables.specs.Table.{Table, flat, Sized, enc_table, opened}
use Rattle.tables.specs.Table.{without as without-slot}
use Rattle.tables.proofs.Laws as tables
use Rattle.lent.specs.Lent.{part, placed}
use Rattle.state.specs.Layout.{padded}
use Rattle.state.proofs.Padded.{length_padded}
use Rattle.waiting.specs.Slots.{Slots, HasSlots, EditsSlots, rewritten, inserted, Rewrites, Opens}
use Rattle.waiting.proofs.Lists as lists
use Rattle.waiting.proofs.Splices as splices

-- ---- a field: zeros, and the value over them

pub filled : (at width : ℕ) (w w1 w2 b : List ℕ) → at + width ≤ length w → length b ≤ width → w1 ≡ placed at width (zeros width) w
    → w2 ≡ take at w1 ++ (b ++ drop (at + length b) w1) → w2 ≡ placed at width (padded width b) w
unfolding padded
filled at width w w1 w2 b h k p q =
    let D : List ℕ = drop width (drop at w) in
    let l : length (take at w) ≡ at = length-take-le at w (omega arith) in
    let t : take at w1 ≡ take at w = ap (take at) p ∙ take_at (take at w) (zeros width ++ D) at l in
    let m : length b ≤ length (zeros width) = subst (λ (n : ℕ). length b ≤ n) (sym (length-replicate width 0)) k in
    let d : drop (at + length b) w1 ≡ zeros (width - length b) ++ D =
    sym (drop-drop (length b) at w1) ∙ ap (drop (length b)) (ap (drop at) p ∙ drop_at (take at w) (zeros width ++ D) at l)
    ∙ drop-append-le (length b) (zeros width) D m ∙ ap (λ (x : List ℕ). x ++ D) (drop_zeros (length b) width k) in
    q ∙ ap₂ (λ (x y : List ℕ). x ++ (b ++ y)) t d ∙ ap (λ (x : List ℕ). take at w ++ x) (sym (append_assoc b (zeros (width - length b)) D))

-- ---- one slot

sized_take : (i : ℕ) (t : Table) → Sized 5940 t → Sized 5940 (take i t)
sized_take zero t z = tt
sized_take (suc i) [] z = tt
sized_take (suc i) (s ∷ t) z = (z.0, sized_take i t z.1)

sized_drop : (i : ℕ) (t : Table) → Sized 5940 t → Sized 5940 (drop i t)
sized_drop zero t z = z
sized_drop (suc i) [] z = tt
sized_drop (suc i) (s ∷ t) z = sized_drop i t z.1

before : (i : ℕ) (t : Table) → Sized 5940 t → i ≤ length t → length (flat (take i t)) ≡ i * 5940
before i t z h = tables.sized_length 5940 (take i t) (sized_take i t z) ∙ ap (λ (n : ℕ). n * 5940) (length-take-le i t h)

sized_at : (i : ℕ) (t : Table) → Sized 5940 t → i < length t → length (get_or t i []) ≡ 5940
sized_at i t z h = (tables.sized_append 5940 (take i t) (get_or t i [] ∷ drop (suc i) t) (subst (Sized 5940) (split_at t i [] h) z)).1.0

-- slot i of a table's bytes, overwritten
table_set : (i : ℕ) (t : Table) (x : List ℕ) → Sized 5940 t → i < length t → length x ≡ 5940 → placed (1 + i * 5940) 5940 x (enc_table 35641 t) ≡ enc_table 35641 (set t i x)
table_set i t x z h l =
    let a : Table = take i t in
    let b : Table = drop (suc i) t in
    let at : ℕ = 1 + i * 5940 in
    let f : length (flat (take i t)) ≡ i * 5940 = before i t z (omega arith) in
    let e : 1 + i * 5940 ≡ 1 + length (flat (take i t)) = omega arith in
    let r : List ℕ = enc_table 35641 t in
    ap (λ (y : List ℕ). take at r ++ (x ++ y)) (drop-drop 5940 at r ∙ ap (λ (n : ℕ). drop (at + n) r) (sym l))
    ∙ ap (λ (u : Table). take at (enc_table 35641 u) ++ (x ++ drop (at + length x) (enc_table 35641 u))) (split_at t i [] h)
    ∙ tables.enc_put 35641 a (get_or t i []) b x at e (sized_at i t z h ∙ sym l)
    ∙ ap (enc_table 35641) (sym (set_split t i x h))

pub slot_set : {t : Table} {w₀ w : List ℕ} (i : ℕ) (x w' : List ℕ) → Slots t w₀ w → i < length t → length x ≡ 5940 → w' ≡ placed (20002 + (1 + i * 5940)) 5940 x w → Slots (set t i x) w₀ w'
slot_set {t} {w₀} {w} i x w' S h l e =
    let f = S.few in
    let g = S.long in
    let u = (splices.slot_in i S h).1 in
    let n : length (set t i x) ≡ length t = length-set t i x in
    let z : Sized 5940 (set t i x) =
    subst (Sized 5940) (sym (set_split t i x h)) (tables.sized_join 5940 (take i t) (x ∷ drop (suc i) t) (sized_take i t S.sized) (l, sized_drop (suc i) t S.sized)) in
    splices.slots_next (set t i x) w' S z (omega arith)
    (e ∙ lists.placed_in 20002 35641 (1 + i * 5940) 5940 x w (omega arith) (omega arith)
    ∙ ap (λ (y : List ℕ). placed 20002 35641 y w) (ap (placed (1 + i * 5940) 5940 x) (splices.slots_part S) ∙ table_set i t x S.sized h l))

pub rewrote : (i o width : ℕ) (b w w' : List ℕ) → i < get_or w 20002 0 → o + width ≤ 5940 → length b ≤ width → w' ≡ placed (20002 + (1 + i * 5940) + o) width (padded width b) w
    → EditsSlots (rewritten i o width b) w w'
rewrote i o width b w w' h k m e = record {
  makes = λ t w₀ S.
      let c = S.count in
      let l : i < length t = omega arith in
      let g = S.long in
      let u = splices.slot_in i S l in
      let y : List ℕ = padded width b in
      let n : length (get_or t i []) ≡ 5940 = sized_at i t S.sized l in
      let r = u.1 in
      slot_set i (placed o width y (get_or t i [])) w' S l (lists.length_placed o width y (get_or t i []) (omega arith) (length_padded width b m) ∙ n)
      (e ∙ lists.placed_in (20002 + (1 + i * 5940)) 5940 o width y w k (omega arith)
      ∙ ap (λ (x : List ℕ). placed (20002 + (1 + i * 5940)) 5940 (placed o width y x) w) u.0);
}

-- ---- a slot more, and a slot less

table_open : (i : ℕ) (t : Table) → Sized 5940 t → i ≤ length t → length t < 6 → opened 5940 (1 + i * 5940) (enc_table 35641 t) ≡ enc_table 35641 (inserted i (zeros 5940) t)
table_open i t z h k =
    let a : Table = take i t in
    let b : Table = drop i t in
    let at : ℕ = 1 + i * 5940 in
    let f : length (flat (take i t)) ≡ i * 5940 = before i t z h in
    let e : 1 + i * 5940 ≡ 1 + length (flat (take i t)) = omega arith in
    let c : t ≡ take i t ++ drop i t = sym (take-append-drop i t) in
    let y : length (flat t) ≡ length t * 5940 = tables.sized_length 5940 t z in
    let j : length t ≤ 5 = omega arith in
    let m : length t * 5940 ≤ 5 * 5940 = mul-le-mul_right 5940 j in
    let d : length (flat t) ≡ length (flat (take i t)) + length (flat (drop i t)) = ap (λ (x : Table). length (flat x)) c ∙ tables.length_flat_append (take i t) (drop i t) in
    let v : ℕ = 35641 - 1 - (length (flat a) + length (flat b)) in
    let n : length a + length b + 1 ≡ length a + suc (length b) = omega arith in
    let q : 35641 - 1 - (length (flat a) + length (flat b)) - 5940 ≡ 35641 - 1 - (length (flat a) + (5940 + length (flat b))) = omega arith in
    let l : length (zeros 5940) ≡ 5940 = length-replicate {A = ℕ} 5940 0 in
    ap (λ (x : Table). opened 5940 at (enc_table 35641 x)) c ∙ ap (opened 5940 at) (tables.enc_cut 35641 a b)
    ∙ tables.open_bytes (length a + length b) (flat a) (flat b) v 5940 at e (omega arith)
    ∙ ap₂ (λ (x y : ℕ). x ∷ (flat a ++ (zeros 5940 ++ (flat b ++ zeros y)))) n (q ∙ ap (λ (x : ℕ). 35641 - 1 - (length (flat a) + (x + length (flat b)))) (sym l))
    ∙ sym (tables.enc_cut3 35641 a (zeros 5940) b)

pub opened_slot : (i : ℕ) (w w' y : List ℕ) → i ≤ get_or w 20002 0 → get_or w 20002 0 < 6 → y ≡ opened 5940 (1 + i * 5940) (take (20002 + 35641 - 20002) (drop 20002 w))
    → w' ≡ take 20002 w ++ (y ++ drop (20002 + 35641 - 20002) (drop 20002 w)) → EditsSlots (inserted i (zeros 5940)) w w'
opened_slot i w w' y h k e q = record {
  makes = λ t w₀ S.
      let c = S.count in
      let f : y ≡ enc_table 35641 (inserted i (zeros 5940) t) =
      e ∙ ap (opened 5940 (1 + i * 5940)) (splices.slots_part S) ∙ table_open i t S.sized (omega arith) (omega arith) in
      let n : length (inserted i (zeros 5940) t) ≡ length (take i t) + suc (length (drop i t)) = length-append (take i t) (zeros 5940 ∷ drop i t) in
      let d : length (take i t) ≡ i = length-take-le i t (omega arith) in
      let g : length (drop i t) ≡ length t - i = length-drop i t in
      splices.slots_next (inserted i (zeros 5940) t) w' S (tables.sized_join 5940 (take i t) (zeros 5940 ∷ drop i t) (sized_take i t S.sized) (length-replicate {A = ℕ} 5940 0, sized_drop i t S.sized))
      (omega arith) (q ∙ ap (λ (x : List ℕ). placed 20002 35641 x w) f);
}

pub out_below : {w : List ℕ} (H : HasSlots w) (i : ℕ) → i < get_or w 20002 0 → i < length H.t
out_below H i h = let c = H.slots.count in omega arith

pub taken_out : (i : ℕ) (w w' : List ℕ) → i < get_or w 20002 0 → ((t : Table) → Sized 5940 t → part 20002 35641 w ≡ enc_table 35641 t → w' ≡ placed 20002 35641 (enc_table 35641 (without-slot i t)) w)
    → EditsSlots (without-slot i) w w'
unfolding without-slot
taken_out i w w' h g = record {
  makes = λ t w₀ S.
      let c = S.count in
      let f = S.few in
      let n : length (take i t ++ drop (suc i) t) ≡ length (take i t) + length (drop (suc i) t) = length-append (take i t) (drop (suc i) t) in
      let d : length (take i t) ≡ i = length-take-le i t (omega arith) in
      let e : length (drop (suc i) t) ≡ length t - suc i = length-drop (suc i) t in
      splices.slots_next (without-slot i t) w' S (tables.sized_join 5940 (take i t) (drop (suc i) t) (sized_take i t S.sized) (sized_drop (suc i) t S.sized)) (omega arith)
      (g t S.sized (splices.slots_part S));
}

-- ---- the same, with what the next write asks for

pub has_next : {f : Table → Table} {w w' : List ℕ} → HasSlots w → EditsSlots f w w' → HasSlots w'
has_next {f} H E = record { t = f H.t; w₀ = H.w₀; slots = E.makes H.t H.w₀ H.slots }

pub rewrites : (i o width : ℕ) (b w w' : List ℕ) → HasSlots w → i < get_or w 20002 0 → o + width ≤ 5940 → length b ≤ width → w' ≡ placed (20002 + (1 + i * 5940) + o) width (padded width b) w
    → Rewrites i o width b w w'
rewrites i o width b w w' H h k m e =
    let E = rewrote i o width b w w' h k m e in
    record {
      edits = E;
      has = has_next H E;
      count = (E.makes H.t H.w₀ H.slots).count ∙ length-set H.t i _ ∙ sym H.slots.count;
    }

pub opens : (i : ℕ) (w w' y : List ℕ) → HasSlots w → i ≤ get_or w 20002 0 → get_or w 20002 0 < 6 → y ≡ opened 5940 (1 + i * 5940) (take (20002 + 35641 - 20002) (drop 20002 w))
    → w' ≡ take 20002 w ++ (y ++ drop (20002 + 35641 - 20002) (drop 20002 w)) → Opens i w w'
opens i w w' y H h k e q =
    let E = opened_slot i w w' y h k e q in
    let t : Table = H.t in
    let c : get_or w 20002 0 ≡ length t = H.slots.count in
    let d : get_or w' 20002 0 ≡ length (inserted i (zeros 5940) t) = (E.makes t H.w₀ H.slots).count in
    let n : length (inserted i (zeros 5940) t) ≡ length (take i t) + suc (length (drop i t)) = length-append (take i t) (zeros 5940 ∷ drop i t) in
    let l : length (take i t) ≡ i = length-take-le i t (omega arith) in
    let g : length (drop i t) ≡ length t - i = length-drop i t in
    record { edits = E; has = has_next H E; count = omega arith }

pub slots_long : {w : List ℕ} (H : HasSlots w) → length w ≡ 58543
slots_long H = H.slots.long

-- two writes to one slot
pub rewrite_more : (i o width : ℕ) (b x : List ℕ) (t : Table) → i < length t → rewritten i o width b (set t i x) ≡ set t i (placed o width (padded width b) x)
rewrite_more i o width b x t h =
    ap (λ (y : List ℕ). set (set t i x) i (placed o width (padded width b) y)) (get_or-set_same t i x [] h) ∙ set-set t i x (placed o width (padded width b) x)

-- a write more to the slot that was written before
pub field_more : {w w' w'' : List ℕ} (i o width : ℕ) (b : List ℕ) (F : List ℕ → List ℕ) → i < get_or w 20002 0 → EditsSlots (λ t. set t i (F (get_or t i []))) w w' → Rewrites i o width b w' w''
    → EditsSlots (λ t. set t i (placed o width (padded width b) (F (get_or t i [])))) w w''
field_more {w} {w'} {w''} i o width b F h E R = record {
  makes = λ t w₀ S.
      let c = S.count in
      let l : i < length t = omega arith in
      subst (λ (u : Table). Slots u w₀ w'') (rewrite_more i o width b (F (get_or t i [])) t l) (R.edits.makes (set t i (F (get_or t i []))) w₀ (E.makes t w₀ S));
}

-- the table's part, as its own functions have it
pub part_long : {w : List ℕ} (H : HasSlots w) → length (take (20002 + 35641 - 20002) (drop 20002 w)) ≡ 35641
part_long {w} H = let l = H.slots.long in tables.part_length w 20002 35641 (omega arith)

pub part_count : {w : List ℕ} (H : HasSlots w) → get_or (take (20002 + 35641 - 20002) (drop 20002 w)) 0 0 ≡ get_or w 20002 0
part_count {w} H = ap (λ (x : List ℕ). get_or x 0 0) (splices.slots_part H.slots) ∙ tables.count_enc 35641 H.t ∙ sym H.slots.count
