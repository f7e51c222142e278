-- What the functions of this crate cite: each law's premises are what the callees ensure. Assumes nothing.
use Rattle.std.specs.Prelude.{Option, Some, None, if◌then◌else◌}
use Rattle.format.proofs.Options.{Some-injective, None-ne-Some}
use Prim.Native.Nat.{ℕ, suc, ◌+◌, ◌*◌, ◌≤◌, ◌<◌}
use native.Mathlib.Omega.{arith}
use mathlib.Core.Path.{◌≡◌, refl, sym, ap, ap₂, ◌∙◌, subst}
use mathlib.Core.List.{List, [], ◌∷◌, ◌++◌, append-nil}
use mathlib.Core.Bool.{Bool, true, false}
use lib.ListN.{length, take, drop, get_or, set, length-append, drop_of_length-le}
use lib.Seq.{take_all, set_at, get_or_at, length-take-le}
use lib.Dec.{leb, ltb}
use borrow.Author.Tests.{le-leb, lt-leb, le-ltb, lt-ltb, ltb-true, ltb-false}
use Rattle.spans.specs.Bytes.{zeros}
use Rattle.model.specs.Maps.{map}
use Rattle.format.specs.Format.{list}
use Rattle.std.specs.declared.cmp.Ordering.{Ordering}
use Rattle.tables.specs.Table.{Table, flat, Sized, enc_table, slots_of}
use Rattle.tables.specs.Table.{without as without-slot}
use Rattle.tables.proofs.Laws as tables
use Rattle.lent.specs.Lent.{part, placed}
use Rattle.lent.proofs.Laws as lent
use Rattle.model.specs.Seam.{ResourceId}
use Rattle.model.specs.Parts.{Conflict, Refused}
use Rattle.model.specs.State.{Pending, Queue, SyncState}
use Rattle.model.specs.Limits.{document01}
use Rattle.model.specs.Formats.{resource_id, conflicts_f, refusals_f}
use Rattle.model.specs.Sync.{as_collided, without_plan, change_front, new_pending}
use Rattle.model.specs.Edits.{Edit}
use Rattle.model.proofs.FitQueues.{no_conflicts, no_refusals}
use Rattle.model.proofs.Fitting.{length-map}
use Rattle.state.specs.Layout.{padded, name_slot}
use Rattle.state.specs.Fits.{PendingFits}
use Rattle.state.specs.Contract.{Keeps, HasState, Reads, Edits, Tries}
use Rattle.state.specs.Values.{name_of, Named}
use Rattle.waiting.specs.Queues.{put_in, below, queue, put_queue, all_entries, nth, without, change_at, planned, joined, slot_number}
use Rattle.waiting.specs.Slots.{Slots, ReadsSlots, EditsSlots, Rewrites, Opens, tallied, inserted, new_fields}
use Rattle.waiting.specs.Entries.{EntryAt, EntryIs, FindsEntry, PlanBytes, EditBytes}
use Rattle.waiting.proofs.Cuts.{Slot, Rows, Flat, flat_count}
use Rattle.waiting.proofs.Lists as lists
use Rattle.waiting.proofs.Fields as fields
use Rattle.waiting.proofs.Splices as splices
use Rattle.waiting.proofs.Writes as writes

-- ---- counting slots

pub tallied_in : (rank : Ordering) (key w : List ℕ) (n : ℕ) → n ≡ tallied rank key (slots_of 5940 (take 35641 (drop 20002 w))) → ReadsSlots (tallied rank key) w n
tallied_in rank key w n e = record { is = λ t w₀ S. e ∙ ap (tallied rank key) (lent.slots_are 5940 20002 35641 w t S.sized (splices.slots_part S)) }

-- ---- where an entry stands

-- entry j of the queue of r has slot i
pub record HasSlot (r : ResourceId) (j : ℕ) (w : List ℕ) (i : ℕ) : Type 0 where
  pub is : (s : SyncState) → Keeps s w → (i ≡ below r s.edits + j) × (j < length (queue r s))

module _ (r : ResourceId) (w : List ℕ) (j : ℕ) where
  pub has_slot : (n i : ℕ) → Reads (λ s. length (queue r s)) w n → Reads (λ s. below r s.edits) w i → j < n → HasSlot r j w (i + j)
  has_slot n i N I l = record { is = λ s h. (ap (λ (x : ℕ). x + j) (I.is s h), subst (λ (x : ℕ). j < x) (N.is s h) l) }

  pub slot_some : (n i : ℕ) → Reads (λ s. length (queue r s)) w n → Reads (λ s. below r s.edits) w i → j < n → Reads (slot_number r j) w (Some (i + j))
  slot_some n i N I l = record { is = λ s h. let c : n ≡ length (queue r s) = N.is s h in rw (lt-ltb j (length (queue r s)) (omega arith)) (ap (λ (x : ℕ). Some (x + j)) (I.is s h)) }

  pub slot_none : (n : ℕ) → Reads (λ s. length (queue r s)) w n → n ≤ j → Reads (slot_number r j) w None
  slot_none n N l = record { is = λ s h. let c : n ≡ length (queue r s) = N.is s h in rw (le-ltb j (length (queue r s)) (omega arith)) }

  pub slot_is : (i : ℕ) → Reads (slot_number r j) w (Some i) → HasSlot r j w i
  slot_is i R = record { is = λ s h. go s (ltb j (length (queue r s))) refl (R.is s h) }
    where
      go : (s : SyncState) (b : Bool) → ltb j (length (queue r s)) ≡ b → Some i ≡ (if b then Some (below r s.edits + j) else None) → (i ≡ below r s.edits + j) × (j < length (queue r s))
      go s true q e = (Some-injective i (below r s.edits + j) e, ltb-true j (length (queue r s)) q)
      go s false q e = absurd (None-ne-Some i (sym e))

  pub slot_not : Reads (slot_number r j) w None → (s : SyncState) → Keeps s w → length (queue r s) ≤ j
  slot_not R s h = go (ltb j (length (queue r s))) refl (R.is s h)
    where
      go : (b : Bool) → ltb j (length (queue r s)) ≡ b → None ≡ (if b then Some (below r s.edits + j) else None) → length (queue r s) ≤ j
      go true q e = absurd (None-ne-Some (below r s.edits + j) e)
      go false q e = ltb-false j (length (queue r s)) q

-- its number in the table is below the count
pub index_below : (r : ResourceId) (w : List ℕ) (i j : ℕ) → HasState w → HasSlot r j w i → i < 6
unfolding document01
index_below r w i j H S =
    let s = H.state in
    let h = H.keeps in
    let a = splices.rows_count r h in
    let b : length (Flat s.edits) ≤ 6 = h.fits.edits.small in
    let c = S.is s h in
    omega arith

pub not_there : (r : ResourceId) (w : List ℕ) (j : ℕ) (x : Option ℕ) → Reads (slot_number r j) w None → x ≡ None → FindsEntry r j w x
unfolding EntryIs
not_there r w j x R e = subst (FindsEntry r j w) (sym e) (record { is = λ s h. lists.nth_none j (queue r s) (slot_not r w j R s h) })

module _ {s : SyncState} {w : List ℕ} (r : ResourceId) (h : Keeps s w) (j i p : ℕ) (e : Pending) where
  pub entry_at : resource_id.Ok r → p ≡ 20002 + (1 + i * 5940) → HasSlot r j w i → nth j (queue r s) ≡ Some e → EntryAt r j w s p e
  entry_at k q H g =
      let d : i ≡ below r s.edits + j = (H.is s h).0 in
      let l : j < length (queue r s) = (H.is s h).1 in
      let a = splices.rows_count r h in
      let S = splices.slots_of_lem h in
      let u = splices.slot_in i S (omega arith) in
      let ok : PendingFits document01 r e = lists.nth_all (PendingFits document01 r) j (queue r s) e (splices.cut_of r h).own g in
      let b : take 5940 (drop p w) ≡ Slot r e =
      ap (λ (n : ℕ). take 5940 (drop n w)) q ∙ u.0 ∙ ap (λ (n : ℕ). get_or (Flat s.edits) n []) d ∙ splices.row_of r h j e g l in
      let f : take 5940 (drop p w) ≡ flat (fields.fields r e) = b ∙ fields.slot_is r e in
      let z = fields.fields_long r e k ok in
      let at : (o n : ℕ) → o + n ≤ 5940 → take n (drop (p + o) w) ≡ take n (drop o (flat (fields.fields r e))) =
      λ o n m. tables.field_of w 5940 p o n m ∙ ap (λ (x : List ℕ). take n (drop o x)) f in
      record {
        got = g;
        fits = ok;
        room = omega (arith, u.1);
        slot = b;
        id = at 33 33 (omega arith) ∙ fields.field_of 1 (fields.fields r e) z (omega arith);
        operation = at 66 1469 (omega arith) ∙ fields.field_of 2 (fields.fields r e) z (omega arith);
        role = at 1535 34 (omega arith) ∙ fields.field_of 3 (fields.fields r e) z (omega arith);
        expires_at = at 1569 9 (omega arith) ∙ fields.field_of 4 (fields.fields r e) z (omega arith);
        conflicts = at 1578 3072 (omega arith) ∙ fields.field_of 5 (fields.fields r e) z (omega arith);
        refused = at 4650 1024 (omega arith) ∙ fields.field_of 6 (fields.fields r e) z (omega arith);
        collided = at 5674 1 (omega arith) ∙ fields.field_of 7 (fields.fields r e) z (omega arith);
        absorbed = at 5675 265 (omega arith) ∙ fields.field_of 8 (fields.fields r e) z (omega arith);
      }

pub found : (r : ResourceId) (w : List ℕ) (i j p : ℕ) → resource_id.Ok r → HasSlot r j w i → p ≡ 20002 + (1 + i * 5940) → FindsEntry r j w (Some p)
unfolding EntryIs
found r w i j p k H q = record {
  is = λ s h.
      let g = lists.nth_some j (queue r s) (H.is s h).1 in
      record { entry = g.0; is = entry_at r h j i p g.0 k q H g.1 };
}

-- ---- changes of a queue

pub index_count : (r : ResourceId) (w : List ℕ) (i j : ℕ) → HasState w → HasSlot r j w i → i < get_or w 20002 0
index_count r w i j H S =
    let s = H.state in
    let h = H.keeps in
    let a = splices.rows_count r h in
    let b : get_or w 20002 0 ≡ length (Flat s.edits) = (splices.slots_of_lem h).count in
    let c = S.is s h in
    omega arith

pub removes_none : (r : ResourceId) (w : List ℕ) (j : ℕ) → resource_id.Ok r → Reads (slot_number r j) w None → Edits (λ s. put_queue r (without j (queue r s)) s) w w
unfolding without
removes_none r w j k R = record {
  makes = λ s h.
      let q : Queue = queue r s in
      let c : length q ≤ j = slot_not r w j R s h in
      splices.kept r k h w (without j q) (ap₂ (λ (x y : Queue). x ++ y) (take_all j q (omega arith)) (drop_of_length-le q {i = suc j} (omega arith)) ∙ append-nil q);
}

pub removes : (r : ResourceId) (w w' : List ℕ) (i j : ℕ) → resource_id.Ok r → HasState w → HasSlot r j w i
    → ((t : Table) → Sized 5940 t → part 20002 35641 w ≡ enc_table 35641 t → w' ≡ placed 20002 35641 (enc_table 35641 (without-slot i t)) w)
    → Edits (λ s. put_queue r (without j (queue r s)) s) w w'
removes r w w' i j k H S g = record {
  makes = λ s h.
      splices.removed r k h w' j (S.is s h).1 (subst (λ (x : ℕ). Slots (without-slot x (Flat s.edits)) w w') (S.is s h).0
      ((writes.taken_out i w w' (index_count r w i j H S) g).makes (Flat s.edits) w (splices.slots_of_lem h)));
}

-- entry j is changed where its slot is: F of the bytes is g of the entry
pub changes : (r : ResourceId) (w w' : List ℕ) (i j : ℕ) (g : Pending → Pending) (F : List ℕ → List ℕ) → resource_id.Ok r → HasSlot r j w i
    → ((s : SyncState) → Keeps s w → (p : Pending) → nth j (queue r s) ≡ Some p → PendingFits document01 r p → PendingFits document01 r (g p) × (F (Slot r p) ≡ Slot r (g p)))
    → EditsSlots (λ t. set t i (F (get_or t i []))) w w' → Edits (λ s. put_queue r (change_at j g (queue r s)) s) w w'
changes r w w' i j g F k H f E = record {
  makes = λ s h.
      let l : j < length (queue r s) = (H.is s h).1 in
      let x = lists.nth_some j (queue r s) l in
      let p : Pending = x.0 in
      let t : Table = Flat s.edits in
      let ok : PendingFits document01 r p = lists.nth_all (PendingFits document01 r) j (queue r s) p (splices.cut_of r h).own x.1 in
      let a : i ≡ below r s.edits + j = (H.is s h).0 in
      let y : F (get_or t i []) ≡ Slot r (g p) = ap F (ap (λ (m : ℕ). get_or t m []) a ∙ splices.row_of r h j p x.1 l) ∙ (f s h p x.1 ok).1 in
      splices.changed r k h w' j g p x.1 l (f s h p x.1 ok).0
      (subst (λ (u : Table). Slots u w w') (ap₂ (λ (m : ℕ) (z : List ℕ). set t m z) a y) (E.makes t w (splices.slots_of_lem h)));
}

-- the head
front_is : (g : Pending → Pending) (q : Queue) → change_at 0 g q ≡ change_front g q
unfolding change_at change_front
front_is g [] = refl
front_is g (p ∷ q) = refl

front_edits : (r : ResourceId) (g : Pending → Pending) (w w' : List ℕ) → Edits (λ s. put_queue r (change_at 0 g (queue r s)) s) w w' → Edits (λ s. put_queue r (change_front g (queue r s)) s) w w'
front_edits r g w w' E = record { makes = λ s h. subst (λ (q : Queue). Keeps (put_queue r q s) w') (front_is g (queue r s)) (E.makes s h) }

empty_front : (g : Pending → Pending) (q : Queue) → length q ≡ 0 → change_front g q ≡ q
unfolding change_front
empty_front g [] e = refl
empty_front g (p ∷ q) e = absurd (omega arith)

pub front_none : (r : ResourceId) (g : Pending → Pending) (w : List ℕ) → resource_id.Ok r → Reads (slot_number r 0) w None → Edits (λ s. put_queue r (change_front g (queue r s)) s) w w
front_none r g w k R = record {
  makes = λ s h.
      let l : length (queue r s) ≤ 0 = slot_not r w 0 R s h in
      splices.kept r k h w (change_front g (queue r s)) (empty_front g (queue r s) (omega arith));
}

front_changes : (r : ResourceId) (w w' : List ℕ) (i : ℕ) (g : Pending → Pending) (F : List ℕ → List ℕ) → resource_id.Ok r → HasSlot r 0 w i
    → ((p : Pending) → PendingFits document01 r p → PendingFits document01 r (g p) × (F (Slot r p) ≡ Slot r (g p)))
    → EditsSlots (λ t. set t i (F (get_or t i []))) w w' → Edits (λ s. put_queue r (change_front g (queue r s)) s) w w'
front_changes r w w' i g F k H f E = front_edits r g w w' (changes r w w' i 0 g F k H (λ s h p e ok. f p ok) E)

pub collides : (r : ResourceId) (w w' : List ℕ) (i : ℕ) → resource_id.Ok r → HasSlot r 0 w i → Rewrites i 5674 1 (1 ∷ []) w w' → Edits (λ s. put_queue r (change_front as_collided (queue r s)) s) w w'
collides r w w' i k H R =
    front_changes r w w' i as_collided (placed 5674 1 (padded 1 (1 ∷ []))) k H (λ p ok. (fields.collided_fits r p k ok, fields.collided_put r p k ok)) R.edits

pub plans : (r : ResourceId) (w w1 w2 b d : List ℕ) (i : ℕ) → resource_id.Ok r → HasState w → HasSlot r 0 w i
    → length b ≤ 3072 → length d ≤ 1024 → Rewrites i 1578 3072 b w w1 → Rewrites i 4650 1024 d w1 w2
    → (cs : List Conflict) (rs : List Refused) → PlanBytes cs rs b d → Edits (λ s. put_queue r (change_front (planned cs rs) (queue r s)) s) w w2
plans r w w1 w2 b d i k H S m o R Q cs rs B =
    front_changes r w w2 i (planned cs rs) (λ x. placed 4650 1024 (padded 1024 d) (placed 1578 3072 (padded 3072 b) x)) k S
    (λ p ok. (
      fields.planned_fits r p k ok cs rs B.conflicts_ok (subst (λ (x : List ℕ). length x ≤ 3072) B.conflicts_is m) B.refused_ok (subst (λ (x : List ℕ). length x ≤ 1024) B.refused_is o),
      fields.planned_put r p k ok cs rs b d B m,
    ))
    (writes.field_more i 4650 1024 d (placed 1578 3072 (padded 3072 b)) (index_count r w i 0 H S) R.edits Q)

pub unplans : (r : ResourceId) (w w' : List ℕ) → ((cs : List Conflict) (rs : List Refused) → PlanBytes cs rs (0 ∷ []) (0 ∷ []) → Edits (λ s. put_queue r (change_front (planned cs rs) (queue r s)) s) w w')
    → Edits (λ s. put_queue r (change_front without_plan (queue r s)) s) w w'
unfolding planned without_plan conflicts_f refusals_f list
unplans r w w' g = g [] [] (record { conflicts_ok = no_conflicts; conflicts_is = refl; refused_ok = no_refusals; refused_is = refl })

-- ---- one entry more

pub end_count : (r : ResourceId) (w : List ℕ) (n i : ℕ) → HasState w → Reads (λ s. length (queue r s)) w n → Reads (λ s. below r s.edits) w i → i + n ≤ get_or w 20002 0
end_count r w n i H N I =
    let s = H.state in
    let h = H.keeps in
    let a = splices.rows_count r h in
    let b : get_or w 20002 0 ≡ length (Flat s.edits) = (splices.slots_of_lem h).count in
    let c : n ≡ length (queue r s) = N.is s h in
    let d : i ≡ below r s.edits = I.is s h in
    omega arith

pub all_count : (w : List ℕ) (n : ℕ) → HasState w → Reads all_entries w n → n ≡ get_or w 20002 0
all_count w n H R = R.is H.state H.keeps ∙ sym (flat_count H.state.edits) ∙ sym (splices.slots_of_lem H.keeps).count

pub room_for : (w : List ℕ) (n : ℕ) → HasState w → Reads all_entries w n → n < 6 → get_or w 20002 0 < 6
room_for w n H R l = let e = all_count w n H R in omega arith

more_count : {s : SyncState} {w : List ℕ} (r : ResourceId) (p : Pending) → Keeps s w → all_entries (put_queue r (queue r s ++ (p ∷ [])) s) ≡ suc (all_entries s)
unfolding map
more_count {s} r p h =
    let C = splices.cut_of r h in
    let q : Queue = queue r s in
    let a : length (C.pre ++ (Rows r (q ++ (p ∷ [])) ++ C.post)) ≡ length C.pre + length (Rows r (q ++ (p ∷ [])) ++ C.post) = length-append C.pre (Rows r (q ++ (p ∷ [])) ++ C.post) in
    let b : length (Rows r (q ++ (p ∷ [])) ++ C.post) ≡ length (Rows r (q ++ (p ∷ []))) + length C.post = length-append (Rows r (q ++ (p ∷ []))) C.post in
    let d : length (Rows r (q ++ (p ∷ []))) ≡ length (q ++ (p ∷ [])) = length-map (Slot r) (q ++ (p ∷ [])) in
    let e : length (q ++ (p ∷ [])) ≡ length q + 1 = length-append q (p ∷ []) in
    let f = splices.rows_count r h in
    let g : length C.pre ≡ below r s.edits = C.first in
    let i : length (Flat (put_in r (q ++ (p ∷ [])) s.edits)) ≡ suc (length (Flat s.edits)) = ap length (C.put (q ++ (p ∷ []))) ∙ omega arith in
    sym (flat_count (put_in r (q ++ (p ∷ [])) s.edits)) ∙ i ∙ ap suc (flat_count s.edits)

pub appends_full : (r : ResourceId) (w : List ℕ) (n : ℕ) → Reads all_entries w n → 6 ≤ n
    → (p : Pending) → Tries (λ s. leb (all_entries (put_queue r (queue r s ++ (p ∷ [])) s)) 6) (λ s. put_queue r (queue r s ++ (p ∷ [])) s) w false w
appends_full r w n R l p = record {
  is = λ s h.
      let a : n ≡ all_entries s = R.is s h in
      let b : suc (all_entries s) ≡ all_entries (put_queue r (queue r s ++ (p ∷ [])) s) = sym (more_count r p h) in
      sym (lt-leb (all_entries (put_queue r (queue r s ++ (p ∷ [])) s)) 6 (omega arith));
  makes = λ s h y. absurd (tables.false_true y);
  stays = λ s h y. h;
}

inserted_set : (i : ℕ) (x y : List ℕ) (t : Table) → i ≤ length t → set (inserted i x t) i y ≡ inserted i y t
inserted_set i x y t h = set_at (take i t) x (drop i t) y i (length-take-le i t h)

inserted_at : (i : ℕ) (x : List ℕ) (t : Table) → i ≤ length t → get_or (inserted i x t) i [] ≡ x
inserted_at i x t h = get_or_at (take i t) x (drop i t) [] i (length-take-le i t h)

-- a slot opened behind the queue's own, and an entry written into it
pub joins : (r : ResourceId) (w w1 w2 : List ℕ) (n i : ℕ) (F : List ℕ → List ℕ) (p : Pending) → resource_id.Ok r → Reads (λ s. length (queue r s)) w n → Reads (λ s. below r s.edits) w i
    → Opens (i + n) w w1 → EditsSlots (λ t. set t (i + n) (F (get_or t (i + n) []))) w1 w2 → F (zeros 5940) ≡ Slot r p → PendingFits document01 r p → Edits (joined r p) w w2
joins r w w1 w2 n i F p k N I O E f ok = record {
  makes = λ s h.
      let t : Table = Flat s.edits in
      let c : i + n ≡ below r s.edits + length (queue r s) = ap₂ ◌+◌ (I.is s h) (N.is s h) in
      let d = splices.rows_count r h in
      let m : i + n ≤ length t = omega arith in
      let u : Table = inserted (i + n) (zeros 5940) t in
      let v : Slots (set u (i + n) (F (get_or u (i + n) []))) w w2 = E.makes u w (O.edits.makes t w (splices.slots_of_lem h)) in
      let x : F (get_or u (i + n) []) ≡ Slot r p = ap F (inserted_at (i + n) (zeros 5940) t m) ∙ f in
      splices.appended r k h w2 p ok
      (subst (λ (z : Table). Slots z w w2) (ap (set u (i + n)) x ∙ inserted_set (i + n) (zeros 5940) (Slot r p) t m ∙ ap (λ (z : ℕ). inserted z (Slot r p) t) c) v);
}

pub appends : (r : ResourceId) (w w1 w2 b id operation role expiry : List ℕ) (a n i : ℕ) → Named b → name_of b ≡ r → Reads all_entries w a → a < 6 → Reads (λ s. length (queue r s)) w n → Reads (λ s. below r s.edits) w i
    → Opens (i + n) w w1 → EditsSlots (λ t. set t (i + n) (new_fields b id operation role expiry (get_or t (i + n) []))) w1 w2
    → (e : Edit) → EditBytes e r id operation role expiry
    → Tries (λ s. leb (all_entries (put_queue r (queue r s ++ (new_pending e ∷ [])) s)) 6) (λ s. put_queue r (queue r s ++ (new_pending e ∷ [])) s) w true w2
appends r w w1 w2 b id operation role expiry a n i M q A l N I O F e B =
    let k : resource_id.Ok r = subst resource_id.Ok q M.ok in
    record {
      is = λ s h.
          let c : a ≡ all_entries s = A.is s h in
          let d : suc (all_entries s) ≡ all_entries (put_queue r (queue r s ++ (new_pending e ∷ [])) s) = sym (more_count r (new_pending e) h) in
          sym (le-leb (all_entries (put_queue r (queue r s ++ (new_pending e ∷ [])) s)) 6 (omega arith));
      makes = λ s h y. (joins r w w1 w2 n i (new_fields b id operation role expiry) (new_pending e) k N I O F (fields.new_slot r e b id operation role expiry k (M.is ∙ ap name_slot q) B)
          (fields.new_fits r e id operation role expiry B)).makes s h;
      stays = λ s h y. absurd (tables.false_true (sym y));
    }

pub fills : (w w1 w2 w3 w4 w5 b id operation role expiry : List ℕ) (i : ℕ) → i < get_or w 20002 0 → Rewrites i 0 33 b w w1 → Rewrites i 33 33 id w1 w2 → Rewrites i 66 1469 operation w2 w3
    → Rewrites i 1535 34 role w3 w4 → Rewrites i 1569 9 expiry w4 w5 → EditsSlots (λ t. set t i (new_fields b id operation role expiry (get_or t i []))) w w5
fills w w1 w2 w3 w4 w5 b id operation role expiry i h R1 R2 R3 R4 R5 =
    let E1 : EditsSlots (λ t. set t i (placed 0 33 (padded 33 b) (get_or t i []))) w w1 = R1.edits in
    let E2 = writes.field_more i 33 33 id (placed 0 33 (padded 33 b)) h E1 R2 in
    let E3 = writes.field_more i 66 1469 operation (λ x. placed 33 33 (padded 33 id) (placed 0 33 (padded 33 b) x)) h E2 R3 in
    let E4 = writes.field_more i 1535 34 role (λ x. placed 66 1469 (padded 1469 operation) (placed 33 33 (padded 33 id) (placed 0 33 (padded 33 b) x))) h E3 R4 in
    writes.field_more i 1569 9 expiry (λ x. placed 1535 34 (padded 34 role) (placed 66 1469 (padded 1469 operation) (placed 33 33 (padded 33 id) (placed 0 33 (padded 33 b) x)))) h E4 R5
