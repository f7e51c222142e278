-- The fields of a waiting entry's slot. Assumes nothing.
use Prim.Native.Nat.{ℕ, zero, suc, ◌+◌, ◌-◌, ◌≤◌, ◌<◌}
use native.Mathlib.Omega.{arith}
use mathlib.Core.Path.{◌≡◌, refl, sym, ap, ap₂, ◌∙◌, subst}
use mathlib.Core.List.{List, [], ◌∷◌, ◌++◌, append-nil}
use mathlib.Core.Bool.{Bool, true, false}
use lib.ListN.{length, take, drop, get_or, set, length-append, length-replicate, replicate-append-replicate, drop_of_length-le}
use Rattle.format.specs.Format.{option, list, stamp, bool, via, below}
use Rattle.format.proofs.SizeLaws.{bool_within}
use Rattle.spans.specs.Bytes.{zeros}
use Rattle.tables.specs.Table.{Table, flat, Lens, offset}
use Rattle.tables.proofs.Laws as tables
use Rattle.lent.specs.Lent.{placed}
use Rattle.model.specs.Seam.{ResourceId}
use Rattle.model.specs.Parts.{Conflict, Refused}
use Rattle.model.specs.State.{Pending}
use Rattle.model.specs.Event.{Text}
use Rattle.model.specs.Edits.{Edit, Operation}
use Rattle.model.specs.Sync.{as_collided, new_pending, absorb, with_resource}
use Rattle.model.proofs.Fitting.{all_append}
use Rattle.model.specs.Limits.{document01}
use Rattle.model.specs.Formats.{resource_id, short_text, operation_f, role_f, conflicts_f, refusals_f}
use Rattle.state.specs.Layout.{padded, field, name_slot, pending_slot}
use Rattle.state.specs.Fits.{PendingFits}
use Rattle.state.proofs.Widths.{text_33, time_within, operation_within, role_within, absorbed_within}
use Rattle.state.proofs.Padded.{length_padded, length_field, length_name}
use Rattle.state.proofs.Regions.{pending_long}
use Rattle.state.proofs.Fresh.{no_flag}
use Rattle.waiting.specs.Queues.{planned, renamed}
use Rattle.waiting.specs.Slots.{new_fields, more_fields}
use Rattle.waiting.specs.Entries.{PlanBytes, EditBytes, IsEdit, FoldBytes}
use Rattle.waiting.proofs.Cuts.{Slot}
use Rattle.waiting.proofs.Lists as lists
use Rattle.waiting.proofs.Texts.{Ids, ids_more, list_more}

abbrev pub widths : List ℕ
widths = 33 ∷ 33 ∷ 1469 ∷ 34 ∷ 9 ∷ 3072 ∷ 1024 ∷ 1 ∷ 265 ∷ []

abbrev pub fields : ResourceId → Pending → Table
fields r p =
    name_slot r
    ∷ field 33 short_text p.edit.id
    ∷ field 1469 operation_f p.edit.operation
    ∷ field 34 role_f p.edit.role
    ∷ field 9 (option stamp) p.edit.expires_at
    ∷ field 3072 conflicts_f p.conflicts
    ∷ field 1024 refusals_f p.refused
    ∷ field 1 bool p.collided
    ∷ field 265 (list 8 short_text) p.absorbed
    ∷ []

pub slot_is : (r : ResourceId) (p : Pending) → Slot r p ≡ flat (fields r p)
unfolding pending_slot document01
slot_is r p =
    ap (λ (x : List ℕ). name_slot r ++ (field 33 short_text p.edit.id ++ (field 1469 operation_f p.edit.operation ++ (field 34 role_f p.edit.role
    ++ (field 9 (option stamp) p.edit.expires_at ++ (field 3072 conflicts_f p.conflicts ++ (field 1024 refusals_f p.refused ++ (field 1 bool p.collided ++ x))))))))
    (sym (append-nil (field 265 (list 8 short_text) p.absorbed)))

pub bool_ok : (b : Bool) → bool.Ok b
unfolding bool via below
bool_ok true = omega arith
bool_ok false = omega arith

pub fields_long : (r : ResourceId) (p : Pending) → resource_id.Ok r → PendingFits document01 r p → Lens widths (fields r p)
unfolding document01
fields_long r p k ok = (
  length_name r k,
  (
    length_field text_33 p.edit.id ok.id,
    (
      length_field operation_within p.edit.operation ok.operation,
      (
        length_field role_within p.edit.role ok.role,
        (
          length_field time_within p.edit.expires_at ok.expires_at,
          (
            length_padded 3072 (conflicts_f.enc p.conflicts) ok.conflict_bytes,
            (
              length_padded 1024 (refusals_f.enc p.refused) ok.refused_bytes,
              (
                length_field bool_within p.collided (bool_ok p.collided),
                (length_field (absorbed_within document01) p.absorbed ok.absorbed, tt),
              ),
            ),
          ),
        ),
      ),
    ),
  ),
)

pub slot_long : (r : ResourceId) (p : Pending) → resource_id.Ok r → PendingFits document01 r p → length (Slot r p) ≡ 5940
unfolding document01
slot_long r p k ok = pending_long document01 r k p ok

-- field k, and another in its place
pub field_of : (k : ℕ) (fs : Table) → Lens widths fs → k < length fs → take (get_or widths k 0) (drop (offset widths k) (flat fs)) ≡ get_or fs k []
field_of k fs z l = tables.region_of widths fs k z l

pub field_put : (k : ℕ) (fs : Table) (y : List ℕ) → Lens widths fs → k < length fs → placed (offset widths k) (get_or widths k 0) y (flat fs) ≡ flat (set fs k y)
field_put k fs y z l = tables.region_put widths fs k y z l

-- ---- an entry with one field anew

module _ (r : ResourceId) (p : Pending) (k : resource_id.Ok r) (ok : PendingFits document01 r p) where
  slot_put : (i : ℕ) (y : List ℕ) (p' : Pending) → i < 9 → flat (set (fields r p) i y) ≡ flat (fields r p') → placed (offset widths i) (get_or widths i 0) y (Slot r p) ≡ Slot r p'
  slot_put i y p' h e = ap (placed (offset widths i) (get_or widths i 0) y) (slot_is r p) ∙ field_put i (fields r p) y (fields_long r p k ok) h ∙ e ∙ sym (slot_is r p')

  pub collided_put : placed 5674 1 (padded 1 (1 ∷ [])) (Slot r p) ≡ Slot r (as_collided p)
  unfolding as_collided bool via below
  collided_put = slot_put 7 (padded 1 (1 ∷ [])) (as_collided p) (omega arith) refl

  pub conflicts_put : (cs : List Conflict) (b : List ℕ) → b ≡ conflicts_f.enc cs → placed 1578 3072 (padded 3072 b) (Slot r p) ≡ Slot r (planned cs p.refused p)
  unfolding planned
  conflicts_put cs b e = ap (λ (x : List ℕ). placed 1578 3072 (padded 3072 x) (Slot r p)) e ∙ slot_put 5 (field 3072 conflicts_f cs) (planned cs p.refused p) (omega arith) refl

  pub refused_put : (rs : List Refused) (b : List ℕ) → b ≡ refusals_f.enc rs → placed 4650 1024 (padded 1024 b) (Slot r p) ≡ Slot r (planned p.conflicts rs p)
  unfolding planned
  refused_put rs b e = ap (λ (x : List ℕ). placed 4650 1024 (padded 1024 x) (Slot r p)) e ∙ slot_put 6 (field 1024 refusals_f rs) (planned p.conflicts rs p) (omega arith) refl

  pub collided_fits : PendingFits document01 r (as_collided p)
  unfolding as_collided
  collided_fits = record {
    resource_is = ok.resource_is;
    id = ok.id;
    operation = ok.operation;
    role = ok.role;
    expires_at = ok.expires_at;
    conflicts = ok.conflicts;
    conflict_bytes = ok.conflict_bytes;
    refused = ok.refused;
    refused_bytes = ok.refused_bytes;
    absorbed = ok.absorbed;
  }

  pub planned_fits : (cs : List Conflict) (rs : List Refused) → conflicts_f.Ok cs → length (conflicts_f.enc cs) ≤ 3072 → refusals_f.Ok rs → length (refusals_f.enc rs) ≤ 1024 → PendingFits document01 r (planned cs rs p)
  unfolding planned
  planned_fits cs rs a b d e = record {
    resource_is = ok.resource_is;
    id = ok.id;
    operation = ok.operation;
    role = ok.role;
    expires_at = ok.expires_at;
    conflicts = a;
    conflict_bytes = b;
    refused = d;
    refused_bytes = e;
    absorbed = ok.absorbed;
  }

pub planned_put : (r : ResourceId) (p : Pending) → resource_id.Ok r → PendingFits document01 r p → (cs : List Conflict) (rs : List Refused) (b d : List ℕ) → PlanBytes cs rs b d → length b ≤ 3072
    → placed 4650 1024 (padded 1024 d) (placed 1578 3072 (padded 3072 b) (Slot r p)) ≡ Slot r (planned cs rs p)
unfolding planned
planned_put r p k ok cs rs b d B l =
    let m : PendingFits document01 r (planned cs p.refused p) = planned_fits r p k ok cs p.refused B.conflicts_ok (subst (λ (x : List ℕ). length x ≤ 3072) B.conflicts_is l) ok.refused ok.refused_bytes in
    ap (placed 4650 1024 (padded 1024 d)) (conflicts_put r p k ok cs b B.conflicts_is) ∙ refused_put r (planned cs p.refused p) k m rs d B.refused_is

-- ---- a new entry, written over zeros

abbrev zero_fields : List ℕ → Table
zero_fields [] = []
zero_fields (n ∷ ns) = zeros n ∷ zero_fields ns

abbrev total : List ℕ → ℕ
total [] = 0
total (n ∷ ns) = n + total ns

flat_zeros : (ns : List ℕ) → flat (zero_fields ns) ≡ zeros (total ns)
flat_zeros [] = refl
flat_zeros (n ∷ ns) = ap (λ (x : List ℕ). zeros n ++ x) (flat_zeros ns) ∙ replicate-append-replicate n (total ns) 0

zeros_slot : zeros 5940 ≡ flat (zero_fields widths)
zeros_slot = sym (flat_zeros widths)

z : (n : ℕ) → length (zeros n) ≡ n
z n = length-replicate {A = ℕ} n 0

-- five fields of their widths over a slot of zeros
five : (a b c d e : List ℕ) → length a ≡ 33 → length b ≡ 33 → length c ≡ 1469 → length d ≡ 34
    → placed 1569 9 e (placed 1535 34 d (placed 66 1469 c (placed 33 33 b (placed 0 33 a (zeros 5940)))))
    ≡ flat (a ∷ b ∷ c ∷ d ∷ e ∷ zeros 3072 ∷ zeros 1024 ∷ zeros 1 ∷ zeros 265 ∷ [])
five a b c d e l1 l2 l3 l4 =
    let t0 : Table = zero_fields widths in
    let t1 : Table = a ∷ zeros 33 ∷ zeros 1469 ∷ zeros 34 ∷ zeros 9 ∷ zeros 3072 ∷ zeros 1024 ∷ zeros 1 ∷ zeros 265 ∷ [] in
    let t2 : Table = a ∷ b ∷ zeros 1469 ∷ zeros 34 ∷ zeros 9 ∷ zeros 3072 ∷ zeros 1024 ∷ zeros 1 ∷ zeros 265 ∷ [] in
    let t3 : Table = a ∷ b ∷ c ∷ zeros 34 ∷ zeros 9 ∷ zeros 3072 ∷ zeros 1024 ∷ zeros 1 ∷ zeros 265 ∷ [] in
    let t4 : Table = a ∷ b ∷ c ∷ d ∷ zeros 9 ∷ zeros 3072 ∷ zeros 1024 ∷ zeros 1 ∷ zeros 265 ∷ [] in
    ap (λ (x : List ℕ). placed 1569 9 e (placed 1535 34 d (placed 66 1469 c (placed 33 33 b (placed 0 33 a x))))) zeros_slot
    ∙ ap (λ (x : List ℕ). placed 1569 9 e (placed 1535 34 d (placed 66 1469 c (placed 33 33 b x)))) (field_put 0 t0 a (z 33, (z 33, (z 1469, (z 34, (z 9, (z 3072, (z 1024, (z 1, (z 265, tt))))))))) (omega arith))
    ∙ ap (λ (x : List ℕ). placed 1569 9 e (placed 1535 34 d (placed 66 1469 c x))) (field_put 1 t1 b (l1, (z 33, (z 1469, (z 34, (z 9, (z 3072, (z 1024, (z 1, (z 265, tt))))))))) (omega arith))
    ∙ ap (λ (x : List ℕ). placed 1569 9 e (placed 1535 34 d x)) (field_put 2 t2 c (l1, (l2, (z 1469, (z 34, (z 9, (z 3072, (z 1024, (z 1, (z 265, tt))))))))) (omega arith))
    ∙ ap (λ (x : List ℕ). placed 1569 9 e x) (field_put 3 t3 d (l1, (l2, (l3, (z 34, (z 9, (z 3072, (z 1024, (z 1, (z 265, tt))))))))) (omega arith))
    ∙ field_put 4 t4 e (l1, (l2, (l3, (l4, (z 9, (z 3072, (z 1024, (z 1, (z 265, tt))))))))) (omega arith)

empty_list : (n : ℕ) → padded (suc n) (0 ∷ []) ≡ zeros (suc n)
unfolding padded
empty_list n =
    let e : suc n - 1 ≡ n = omega arith in
    ap (λ (k : ℕ). 0 ∷ zeros k) e

no_conflict : field 3072 conflicts_f [] ≡ zeros 3072
unfolding conflicts_f list
no_conflict = empty_list 3071

no_refusal : field 1024 refusals_f [] ≡ zeros 1024
unfolding refusals_f list
no_refusal = empty_list 1023

none_absorbed : field 265 (list 8 short_text) [] ≡ zeros 265
unfolding list
none_absorbed = empty_list 264

full_name : (r : ResourceId) (b : List ℕ) → b ≡ name_slot r → resource_id.Ok r → padded 33 b ≡ name_slot r
unfolding padded
full_name r b e k =
    let l : length b ≡ 33 = ap length e ∙ length_name r k in
    let n : 33 - length b ≡ 0 = omega arith in
    ap (λ (m : ℕ). b ++ zeros m) n ∙ append-nil b ∙ e

pub new_slot : (r : ResourceId) (e : Edit) (b id operation role expiry : List ℕ) → resource_id.Ok r → b ≡ name_slot r → EditBytes e r id operation role expiry
    → new_fields b id operation role expiry (zeros 5940) ≡ Slot r (new_pending e)
unfolding new_pending
new_slot r e b id operation role expiry k n B =
    let a1 : padded 33 b ≡ name_slot r = full_name r b n k in
    let a2 : padded 33 id ≡ field 33 short_text e.id = ap (padded 33) B.id_is in
    let a3 : padded 1469 operation ≡ field 1469 operation_f e.operation = ap (padded 1469) B.operation_is in
    let a4 : padded 34 role ≡ field 34 role_f e.role = ap (padded 34) B.role_is in
    let a5 : padded 9 expiry ≡ field 9 (option stamp) e.expires_at = ap (padded 9) B.expires_is in
    five (padded 33 b) (padded 33 id) (padded 1469 operation) (padded 34 role) (padded 9 expiry)
    (ap length a1 ∙ length_name r k) (ap length a2 ∙ length_field text_33 e.id B.id_ok) (ap length a3 ∙ length_field operation_within e.operation B.operation_ok) (ap length a4 ∙ length_field role_within e.role B.role_ok)
    ∙ joined a1 a2 a3 a4 a5 (sym no_conflict) (sym no_refusal) (sym no_flag) (sym none_absorbed)
    ∙ sym (slot_is r (new_pending e))
  where
    joined : {a b c d e f g h i a' b' c' d' e' f' g' h' i' : List ℕ} → a ≡ a' → b ≡ b' → c ≡ c' → d ≡ d' → e ≡ e' → f ≡ f' → g ≡ g' → h ≡ h' → i ≡ i'
        → flat (a ∷ b ∷ c ∷ d ∷ e ∷ f ∷ g ∷ h ∷ i ∷ []) ≡ flat (a' ∷ b' ∷ c' ∷ d' ∷ e' ∷ f' ∷ g' ∷ h' ∷ i' ∷ [])
    joined e1 e2 e3 e4 e5 e6 e7 e8 e9 = cc

pub new_fits : (r : ResourceId) (e : Edit) (id operation role expiry : List ℕ) → EditBytes e r id operation role expiry → PendingFits document01 r (new_pending e)
unfolding new_pending conflicts_f refusals_f list document01
new_fits r e id operation role expiry B = record {
  resource_is = B.resource;
  id = B.id_ok;
  operation = B.operation_ok;
  role = B.role_ok;
  expires_at = B.expires_ok;
  conflicts = (omega arith, tt);
  conflict_bytes = omega arith;
  refused = (omega arith, tt);
  refused_bytes = omega arith;
  absorbed = (omega arith, tt);
}

pub edit_long : (r : ResourceId) (id operation role expiry : List ℕ) → IsEdit r id operation role expiry → (length id ≤ 33) × (length operation ≤ 1469) × (length role ≤ 34) × (length expiry ≤ 9)
edit_long r id operation role expiry I =
    let e = I.edit in
    let B = I.is in (
      subst (λ (x : List ℕ). length x ≤ 33) (sym B.id_is) (text_33.bytes e.id B.id_ok),
      subst (λ (x : List ℕ). length x ≤ 1469) (sym B.operation_is) (operation_within.bytes e.operation B.operation_ok),
      subst (λ (x : List ℕ). length x ≤ 34) (sym B.role_is) (role_within.bytes e.role B.role_ok),
      subst (λ (x : List ℕ). length x ≤ 9) (sym B.expires_is) (time_within.bytes e.expires_at B.expires_ok),
    )

-- ---- an edit folded into an entry

lens_set : (ns : List ℕ) (rs : Table) (k : ℕ) (y : List ℕ) → Lens ns rs → length y ≡ get_or ns k 0 → Lens ns (set rs k y)
lens_set [] [] k y h e = tt
lens_set [] (r ∷ rs) k y h e = absurd h
lens_set (n ∷ ns) [] k y h e = absurd h
lens_set (n ∷ ns) (r ∷ rs) zero y h e = (e, h.1)
lens_set (n ∷ ns) (r ∷ rs) (suc k) y h e = (h.0, lens_set ns rs k y h.1 e)

pub absorbed_fits : (r : ResourceId) (p : Pending) (o : Operation) (e : Edit) (operation expiry id : List ℕ) → PendingFits document01 r p → FoldBytes o e operation expiry id → length p.absorbed < 8
    → PendingFits document01 r (absorb o e p)
unfolding absorb document01 list
absorbed_fits r p o e operation expiry id ok B l = record {
  resource_is = ok.resource_is;
  id = ok.id;
  operation = B.operation_ok;
  role = ok.role;
  expires_at = B.expires_ok;
  conflicts = ok.conflicts;
  conflict_bytes = ok.conflict_bytes;
  refused = ok.refused;
  refused_bytes = ok.refused_bytes;
  absorbed = (
    let n : length (p.absorbed ++ (e.id ∷ [])) ≡ length p.absorbed + 1 = length-append p.absorbed (e.id ∷ []) in omega arith,
    all_append short_text.Ok p.absorbed (e.id ∷ []) ok.absorbed.1 (B.id_ok, tt),
  );
}

-- so many ids leave room for one more
pub ids_room : (r : ResourceId) (p : Pending) (o : Operation) (e : Edit) (operation expiry id : List ℕ) → PendingFits document01 r p → FoldBytes o e operation expiry id → length p.absorbed < 8
    → suc (length (Ids p.absorbed)) + length id ≤ 265
unfolding absorb document01 list
ids_room r p o e operation expiry id ok B l =
    let f : length ((list 8 short_text).enc (p.absorbed ++ (e.id ∷ []))) ≤ 265 = (absorbed_within document01).bytes (p.absorbed ++ (e.id ∷ [])) (absorbed_fits r p o e operation expiry id ok B l).absorbed in
    let a : length (Ids (p.absorbed ++ (e.id ∷ []))) ≡ length (Ids p.absorbed) + length (short_text.enc e.id) = ap length (ids_more p.absorbed e.id) ∙ length-append (Ids p.absorbed) (short_text.enc e.id) in
    let b : length id ≡ length (short_text.enc e.id) = ap length B.id_is in
    omega arith

pub absorbed_put : (r : ResourceId) (p : Pending) → resource_id.Ok r → PendingFits document01 r p → (o : Operation) (e : Edit) (operation expiry id : List ℕ) → FoldBytes o e operation expiry id → length p.absorbed < 8
    → more_fields (5675 + suc (length (Ids p.absorbed))) (length p.absorbed + 1) operation expiry id (Slot r p) ≡ Slot r (absorb o e p)
unfolding absorb
absorbed_put r p k ok o e operation expiry id B l =
    let ids : List Text = p.absorbed in
    let n : ℕ = suc (length (Ids p.absorbed)) in
    let y2 : List ℕ = padded 1469 operation in
    let y4 : List ℕ = padded 9 expiry in
    let l2 : length (padded 1469 operation) ≡ 1469 = ap (λ (x : List ℕ). length (padded 1469 x)) B.operation_is ∙ length_field operation_within o B.operation_ok in
    let l4 : length (padded 9 expiry) ≡ 9 = ap (λ (x : List ℕ). length (padded 9 x)) B.expires_is ∙ length_field time_within e.expires_at B.expires_ok in
    let h = ids_room r p o e operation expiry id ok B l in
    let T0 : Table = fields r p in
    let T1 : Table = set (fields r p) 2 y2 in
    let T2 : Table = set (set (fields r p) 2 y2) 4 y4 in
    let z0 : Lens widths T0 = fields_long r p k ok in
    let z1 : Lens widths T1 = lens_set widths T0 2 y2 z0 l2 in
    let z2 : Lens widths T2 = lens_set widths T1 4 y4 z1 l4 in
    let A : List ℕ = field 265 (list 8 short_text) p.absorbed in
    let A1 : List ℕ = placed n (length id) (padded (length id) id) A in
    let T3 : Table = set T2 8 A1 in
    let la : length A ≡ 265 = z0.1.1.1.1.1.1.1.1.0 in
    let l8 : length A1 ≡ 265 = lists.length_placed n (length id) (padded (length id) id) A (omega arith) (length_padded (length id) id (omega arith)) ∙ la in
    let z3 : Lens widths T3 = lens_set widths T2 8 A1 z2 l8 in
    let f2 : length (flat T2) ≡ 5940 = tables.length_regions widths T2 z2 in
    let f3 : length (flat T3) ≡ 5940 = tables.length_regions widths T3 z3 in
    let c : List ℕ = padded 1 ((length p.absorbed + 1) ∷ []) in
    let s1 : placed 66 1469 y2 (Slot r p) ≡ flat T1 = ap (placed 66 1469 y2) (slot_is r p) ∙ field_put 2 T0 y2 z0 (omega arith) in
    let s2 : placed 1569 9 y4 (flat T1) ≡ flat T2 = field_put 4 T1 y4 z1 (omega arith) in
    let s3 : placed (5675 + n) (length id) (padded (length id) id) (flat T2) ≡ flat T3 =
    lists.placed_in 5675 265 n (length id) (padded (length id) id) (flat T2) h (omega arith)
    ∙ ap (λ (x : List ℕ). placed 5675 265 (placed n (length id) (padded (length id) id) x) (flat T2)) (field_of 8 T2 z2 (omega arith)) ∙ field_put 8 T2 A1 z2 (omega arith) in
    let s4 : placed 5675 1 c (flat T3) ≡ flat (set T3 8 (placed 0 1 c A1)) =
    lists.placed_in 5675 265 0 1 c (flat T3) (omega arith) (omega arith)
    ∙ ap (λ (x : List ℕ). placed 5675 265 (placed 0 1 c x) (flat T3)) (field_of 8 T3 z3 (omega arith)) ∙ field_put 8 T3 (placed 0 1 c A1) z3 (omega arith) in
    ap (λ (x : List ℕ). placed 5675 1 c (placed (5675 + n) (length id) (padded (length id) id) (placed 1569 9 y4 x))) s1
    ∙ ap (λ (x : List ℕ). placed 5675 1 c (placed (5675 + n) (length id) (padded (length id) id) x)) s2
    ∙ ap (placed 5675 1 c) s3 ∙ s4
    ∙ ap (λ (x : List ℕ). flat (set T3 8 x)) (list_more p.absorbed e.id id B.id_is h)
    ∙ ap₂ (λ (x y : List ℕ). flat (set (set (set (fields r p) 2 (padded 1469 x)) 4 (padded 9 y)) 8 (field 265 (list 8 short_text) (p.absorbed ++ (e.id ∷ []))))) B.operation_is B.expires_is
    ∙ sym (slot_is r (absorb o e p))

-- ---- an entry under another name

pub renamed_fits : (r to : ResourceId) (p : Pending) → PendingFits document01 r p → PendingFits document01 to (renamed to p)
unfolding renamed with_resource
renamed_fits r to p ok = record {
  resource_is = refl;
  id = ok.id;
  operation = ok.operation;
  role = ok.role;
  expires_at = ok.expires_at;
  conflicts = ok.conflicts;
  conflict_bytes = ok.conflict_bytes;
  refused = ok.refused;
  refused_bytes = ok.refused_bytes;
  absorbed = ok.absorbed;
}

renamed_put : (r to : ResourceId) (p : Pending) → resource_id.Ok r → PendingFits document01 r p → placed 0 33 (name_slot to) (Slot r p) ≡ Slot to (renamed to p)
unfolding renamed with_resource
renamed_put r to p k ok = ap (placed 0 33 (name_slot to)) (slot_is r p) ∙ field_put 0 (fields r p) (name_slot to) (fields_long r p k ok) (omega arith) ∙ sym (slot_is to (renamed to p))

whole_slot : (x : List ℕ) → length x ≡ 5940 → placed 0 5940 (padded 5940 x) (zeros 5940) ≡ x
unfolding padded
whole_slot x l =
    let n : 5940 - length x ≡ 0 = omega arith in
    let d : drop 5940 (zeros 5940) ≡ [] = drop_of_length-le (zeros 5940) {i = 5940} (omega (arith, length-replicate {A = ℕ} 5940 0)) in
    ap₂ (λ (m : ℕ) (y : List ℕ). (x ++ zeros m) ++ y) n d ∙ append-nil (x ++ []) ∙ append-nil x

pub moved_slot : (r to : ResourceId) (p : Pending) (b x : List ℕ) → resource_id.Ok r → PendingFits document01 r p → b ≡ name_slot to → resource_id.Ok to → x ≡ Slot r p
    → placed 0 33 (padded 33 b) (placed 0 5940 (padded 5940 x) (zeros 5940)) ≡ Slot to (renamed to p)
moved_slot r to p b x k ok n m e =
    ap₂ (λ (y z : List ℕ). placed 0 33 y z) (full_name to b n m) (whole_slot x (ap length e ∙ slot_long r p k ok) ∙ e) ∙ renamed_put r to p k ok
