-- An edit folded into the newest entry of a queue. Assumes nothing.
use Rattle.std.specs.Prelude.{Some, None}
use Prim.Native.Nat.{ℕ, suc, ◌+◌, ◌-◌, ◌*◌, ◌≤◌, ◌<◌}
use native.Mathlib.Nat.{suc-mul, mul-le-mul_right}
use native.Mathlib.Omega.{arith}
use mathlib.Core.Path.{◌≡◌, sym, ap, ap₂, ◌∙◌, subst}
use mathlib.Core.List.{List, [], ◌∷◌, ◌++◌, append_assoc}
use mathlib.Core.Bool.{true, false}
use lib.ListN.{length, take, drop, get_or, set, length-append, take-append-drop}
use lib.Seq.{take_all, drop-drop, get_or-drop}
use lib.Dec.{leb}
use borrow.Author.Tests.{le-leb, lt-leb}
use Rattle.format.specs.Format.{All, list}
use Rattle.spans.specs.Bytes.{zeros}
use Rattle.tables.proofs.Laws as tables
use Rattle.lent.specs.Lent.{placed}
use Rattle.model.specs.Event.{Text}
use Rattle.model.specs.Seam.{ResourceId}
use Rattle.model.specs.Edits.{Edit, Operation}
use Rattle.model.specs.State.{Pending, Queue, SyncState}
use Rattle.model.specs.Limits.{document01}
use Rattle.model.specs.Machine.{match◌none:◌some:◌}
use Rattle.model.specs.Formats.{resource_id, short_text}
use Rattle.model.specs.Sync.{back, absorb}
use Rattle.state.specs.Layout.{padded, field}
use Rattle.state.specs.Fits.{PendingFits}
use Rattle.state.specs.Contract.{Keeps, HasState, Reads, Edits, Tries}
use Rattle.state.proofs.Widths.{text_33}
use Rattle.waiting.specs.Queues.{queue, put_queue, nth, change_at, change_last, may_absorb}
use Rattle.waiting.specs.Slots.{EditsSlots, Rewrites, more_fields}
use Rattle.waiting.specs.Entries.{EntryAt, EntryIs, FindsEntry, FoldBytes}
use Rattle.waiting.specs.Texts.{texts_end}
use Rattle.waiting.proofs.Cuts.{Slot}
use Rattle.waiting.proofs.Lists as lists
use Rattle.waiting.proofs.Fields as fields
use Rattle.waiting.proofs.Splices as splices
use Rattle.waiting.proofs.Writes as writes
use Rattle.waiting.proofs.Texts as texts
use Rattle.waiting.proofs.Texts.{Ids}
use Rattle.waiting.proofs.Laws as laws
use Rattle.waiting.proofs.Laws.{HasSlot}
use Rattle.format.proofs.Options.{Some-injective}

-- ---- the ids of an entry

ids_short : (ids : List Text) → All short_text.Ok ids → length (Ids ids) ≤ length ids * 33
ids_short [] a = omega arith
ids_short (x ∷ ids) a =
    let h : length (Ids ids) ≤ length ids * 33 = ids_short ids a.1 in
    let l : length (short_text.enc x ++ Ids ids) ≡ length (short_text.enc x) + length (Ids ids) = length-append (short_text.enc x) (Ids ids) in
    let n : length (short_text.enc x) ≤ 33 = text_33.bytes x a.0 in
    let m : suc (length ids) * 33 ≡ length ids * 33 + 33 = suc-mul (length ids) 33 in
    omega arith

-- where they stand
list_at : (w : List ℕ) (p : ℕ) (ids : List Text) → take 265 (drop (p + 5675) w) ≡ field 265 (list 8 short_text) ids
    → drop (p + 5675) w ≡ length ids ∷ (Ids ids ++ (zeros (265 - suc (length (Ids ids))) ++ drop 265 (drop (p + 5675) w)))
unfolding list padded
list_at w p ids e =
    let m : ℕ = 265 - suc (length (Ids ids)) in
    let r : List ℕ = drop 265 (drop (p + 5675) w) in
    sym (take-append-drop 265 (drop (p + 5675) w)) ∙ ap (λ (x : List ℕ). x ++ r) e ∙ ap (λ (x : List ℕ). length ids ∷ x) (append_assoc (Ids ids) (zeros m) r)

pub record IdsAt (w : List ℕ) (p : ℕ) (ids : List Text) : Type 0 where
  pub count : get_or w (p + 5675) 0 ≡ length ids
  pub end : (k : ℕ) → k ≤ length ids → texts_end k w (p + 5676) ≡ p + 5676 + length (Ids (take k ids))
  pub rest : drop (p + 5676) w ≡ Ids ids ++ (zeros (265 - suc (length (Ids ids))) ++ drop 265 (drop (p + 5675) w))
  pub short : length (Ids ids) ≤ length ids * 33

pub ids_at : {s : SyncState} {w : List ℕ} (r : ResourceId) (j p : ℕ) (e : Pending) → EntryAt r j w s p e → IdsAt w p e.absorbed
unfolding document01 list
ids_at {w = w} r j p e E =
    let d = list_at w p e.absorbed E.absorbed in
    let z : p + 5675 + 0 ≡ p + 5675 = omega arith in
    let n : p + 5676 ≡ p + 5675 + 1 = omega arith in
    let t : drop (p + 5676) w ≡ Ids e.absorbed ++ (zeros (265 - suc (length (Ids e.absorbed))) ++ drop 265 (drop (p + 5675) w)) =
    ap (λ (i : ℕ). drop i w) n ∙ sym (drop-drop 1 (p + 5675) w) ∙ ap (drop 1) d in
    record {
      count = ap (λ (i : ℕ). get_or w i 0) (sym z) ∙ sym (get_or-drop (p + 5675) w 0 0) ∙ ap (λ (x : List ℕ). get_or x 0 0) d;
      end = λ k l. texts.texts_are k e.absorbed w _ (p + 5676) t l;
      rest = t;
      short = ids_short e.absorbed E.fits.absorbed.1;
    }

-- ---- the newest entry

pub record Newest (r : ResourceId) (w : List ℕ) (s : SyncState) (n p : ℕ) : Type 0 where
  pub e : Pending
  pub got : back (queue r s) ≡ Some e
  pub nth_is : nth (n - 1) (queue r s) ≡ Some e
  pub fits : PendingFits document01 r e
  pub ids : IdsAt w p e.absorbed

module _ (r : ResourceId) (w : List ℕ) (n p : ℕ) (N : Reads (λ s. length (queue r s)) w n) (F : FindsEntry r (n - 1) w (Some p)) where
  newest : (s : SyncState) → Keeps s w → Newest r w s n p
  unfolding EntryIs
  newest s h =
      let E = (F.is s h).is in
      let e = (F.is s h).entry in
      record {
        e = e;
        got = sym (lists.nth_back (queue r s)) ∙ ap (λ (m : ℕ). nth (m - 1) (queue r s)) (sym (N.is s h)) ∙ E.got;
        nth_is = E.got;
        fits = E.fits;
        ids = ids_at r (n - 1) p e E;
      }

-- ---- the contract of folding

may_some : (o : Operation) (e : Edit) (q : Queue) (p : Pending) → back q ≡ Some p → may_absorb o e q ≡ leb (length p.absorbed + 1) 8
unfolding may_absorb match◌none:◌some:◌ absorb
may_some o e q p g = rw g (ap (λ (n : ℕ). leb n 8) (length-append p.absorbed (e.id ∷ [])))

may_none : (o : Operation) (e : Edit) (q : Queue) → back q ≡ None → may_absorb o e q ≡ true
unfolding may_absorb match◌none:◌some:◌
may_none o e q g = rw g

last_none : (f : Pending → Pending) (q : Queue) → back q ≡ None → change_last f q ≡ q
unfolding change_last match◌none:◌some:◌
last_none f q g = rw g

pub folds_none : (r : ResourceId) (w : List ℕ) (n : ℕ) → resource_id.Ok r → Reads (λ s. length (queue r s)) w n → n ≡ 0
    → (o : Operation) (e : Edit) → Tries (λ s. may_absorb o e (queue r s)) (λ s. put_queue r (change_last (absorb o e) (queue r s)) s) w true w
folds_none r w n k N l o e = record {
  is = λ s h. sym (may_none o e (queue r s) (lists.back_none (queue r s) (sym (N.is s h) ∙ l)));
  makes = λ s h y. splices.kept r k h w (change_last (absorb o e) (queue r s)) (last_none (absorb o e) (queue r s) (lists.back_none (queue r s) (sym (N.is s h) ∙ l)));
  stays = λ s h y. h;
}

pub folds_full : (r : ResourceId) (w : List ℕ) (n p c : ℕ) → Reads (λ s. length (queue r s)) w n → FindsEntry r (n - 1) w (Some p) → c ≡ get_or w (p + 5675) 0 → 8 ≤ c
    → (o : Operation) (e : Edit) → Tries (λ s. may_absorb o e (queue r s)) (λ s. put_queue r (change_last (absorb o e) (queue r s)) s) w false w
folds_full r w n p c N F q m o e = record {
  is = λ s h.
      let M = newest r w n p N F s h in
      let d : c ≡ length M.e.absorbed = q ∙ M.ids.count in
      sym (may_some o e (queue r s) M.e M.got ∙ lt-leb (length M.e.absorbed + 1) 8 (omega arith));
  makes = λ s h y. absurd (tables.false_true y);
  stays = λ s h y. h;
}

times_33 : (a b : ℕ) → a ≤ b → a * 33 ≤ b * 33
times_33 a b h = mul-le-mul_right 33 h

-- where the id goes
pub end_is : (r : ResourceId) (w : List ℕ) (n p c end : ℕ) → HasState w → Reads (λ s. length (queue r s)) w n → FindsEntry r (n - 1) w (Some p) → c ≡ get_or w (p + 5675) 0 → c < 8 → end ≡ texts_end c w (p + 5676)
    → (p + 5676 ≤ end) × (end ≤ p + 5907)
end_is r w n p c end H N F q m t =
    let M = newest r w n p N F H.state H.keeps in
    let d : c ≡ length M.e.absorbed = q ∙ M.ids.count in
    let a : end ≡ p + 5676 + length (Ids (take c M.e.absorbed)) = t ∙ M.ids.end c (omega arith) in
    let b : length (Ids (take c M.e.absorbed)) ≡ length (Ids M.e.absorbed) = ap (λ (x : List Text). length (Ids x)) (take_all c M.e.absorbed (omega arith)) in
    let f : length (Ids M.e.absorbed) ≤ length M.e.absorbed * 33 = M.ids.short in
    let g : length M.e.absorbed * 33 ≤ 7 * 33 = times_33 (length M.e.absorbed) 7 (omega arith) in
    (omega arith, omega arith)

pub folds : (r : ResourceId) (w w' operation expiry id : List ℕ) (n i p c end : ℕ) → resource_id.Ok r → Reads (λ s. length (queue r s)) w n → HasSlot r (n - 1) w i → FindsEntry r (n - 1) w (Some p)
    → c ≡ get_or w (p + 5675) 0 → c < 8 → end ≡ texts_end c w (p + 5676) → EditsSlots (λ t. set t i (more_fields (end - p) (c + 1) operation expiry id (get_or t i []))) w w'
    → (o : Operation) (e : Edit) → FoldBytes o e operation expiry id → Tries (λ s. may_absorb o e (queue r s)) (λ s. put_queue r (change_last (absorb o e) (queue r s)) s) w true w'
folds r w w' operation expiry id n i p c end k N S F q m t E o e B = record {
  is = λ s h.
      let M = newest r w n p N F s h in
      let d : c ≡ length M.e.absorbed = q ∙ M.ids.count in
      sym (may_some o e (queue r s) M.e M.got ∙ le-leb (length M.e.absorbed + 1) 8 (omega arith));
  makes = λ s h y.
      subst (λ (x : Queue). Keeps (put_queue r x s) w') (ap (λ (x : ℕ). change_at (x - 1) (absorb o e) (queue r s)) (N.is s h) ∙ lists.change_last_is (absorb o e) (queue r s)) (changed.makes s h);
  stays = λ s h y. absurd (tables.false_true (sym y));
}
  where
    put : (s : SyncState) → Keeps s w → (x : Pending) → nth (n - 1) (queue r s) ≡ Some x → PendingFits document01 r x
        → PendingFits document01 r (absorb o e x) × (more_fields (end - p) (c + 1) operation expiry id (Slot r x) ≡ Slot r (absorb o e x))
    put s h x g ok =
        let M = newest r w n p N F s h in
        let z : M.e.absorbed ≡ x.absorbed = ap (λ (y : Pending). y.absorbed) (Some-injective M.e x (sym M.nth_is ∙ g)) in
        let d : c ≡ length x.absorbed = q ∙ M.ids.count ∙ ap length z in
        let f : c ≤ length M.e.absorbed = omega (arith, ap length z) in
        let a : end ≡ p + 5676 + length (Ids (take c x.absorbed)) = t ∙ M.ids.end c f ∙ ap (λ (y : List Text). p + 5676 + length (Ids (take c y))) z in
        let u : length (Ids (take c x.absorbed)) ≡ length (Ids x.absorbed) = ap (λ (y : List Text). length (Ids y)) (take_all c x.absorbed (omega arith)) in
        let v : end - p ≡ 5675 + suc (length (Ids x.absorbed)) = omega arith in (
          fields.absorbed_fits r x o e operation expiry id ok B (omega arith),
          ap₂ (λ (f g : ℕ). more_fields f (g + 1) operation expiry id (Slot r x)) v d ∙ fields.absorbed_put r x k ok o e operation expiry id B (omega arith),
        )

    changed : Edits (λ s. put_queue r (change_at (n - 1) (absorb o e) (queue r s)) s) w w'
    changed = laws.changes r w w' i (n - 1) (absorb o e) (more_fields (end - p) (c + 1) operation expiry id) k S put E

pub mores : (w w1 w2 w3 w4 operation expiry id : List ℕ) (i o c : ℕ) → i < get_or w 20002 0 → Rewrites i 66 1469 operation w w1 → Rewrites i 1569 9 expiry w1 w2 → Rewrites i o (length id) id w2 w3
    → Rewrites i 5675 1 (c ∷ []) w3 w4 → EditsSlots (λ t. set t i (more_fields o c operation expiry id (get_or t i []))) w w4
mores w w1 w2 w3 w4 operation expiry id i o c h R1 R2 R3 R4 =
    let E1 : EditsSlots (λ t. set t i (placed 66 1469 (padded 1469 operation) (get_or t i []))) w w1 = R1.edits in
    let E2 = writes.field_more i 1569 9 expiry (placed 66 1469 (padded 1469 operation)) h E1 R2 in
    let E3 = writes.field_more i o (length id) id (λ x. placed 1569 9 (padded 9 expiry) (placed 66 1469 (padded 1469 operation) x)) h E2 R3 in
    writes.field_more i 5675 1 (c ∷ []) (λ x. placed o (length id) (padded (length id) id) (placed 1569 9 (padded 9 expiry) (placed 66 1469 (padded 1469 operation) x))) h E3 R4
