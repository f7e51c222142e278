-- An entry that leaves one queue and joins another. Assumes nothing.
use Prim.Native.Nat.{ℕ, suc, ◌+◌, ◌-◌, ◌≤◌, ◌<◌}
use native.Mathlib.Omega.{arith}
use mathlib.Core.Path.{◌≡◌, ap, ◌∙◌, subst}
use mathlib.Core.List.{List, [], ◌++◌}
use lib.ListN.{length, take, drop, get_or, set, length-append, length-drop}
use lib.Seq.{length-take-le}
use Rattle.lent.specs.Lent.{placed}
use Rattle.model.specs.Seam.{ResourceId}
use Rattle.model.specs.State.{Pending, Queue, SyncState}
use Rattle.model.specs.Limits.{document01}
use Rattle.model.specs.Machine.{match◌none:◌some:◌}
use Rattle.model.specs.Formats.{resource_id}
use Rattle.model.proofs.Fitting.{length-map}
use Rattle.state.specs.Layout.{padded, name_slot}
use Rattle.state.specs.Fits.{PendingFits}
use Rattle.state.specs.Contract.{HasState, Reads, Edits}
use Rattle.state.specs.Values.{name_of, Named}
use Rattle.waiting.specs.Queues.{put_in, below, queue, put_queue, without, renamed, joined, moved}
use Rattle.waiting.specs.Slots.{EditsSlots, Rewrites, Opens}
use Rattle.waiting.specs.Entries.{EntryIs, FindsEntry}
use Rattle.std.specs.Prelude.{Some, None}
use Rattle.waiting.proofs.Cuts.{Slot, Rows, Flat}
use Rattle.waiting.proofs.Lists as lists
use Rattle.waiting.proofs.Fields as fields
use Rattle.waiting.proofs.Splices as splices
use Rattle.waiting.proofs.Writes as writes
use Rattle.waiting.proofs.Laws as laws

-- ---- joining

pub slot_joins : (to : ResourceId) (w w1 w2 w3 b x : List ℕ) (n i : ℕ) → Named b → name_of b ≡ to → get_or w1 20002 0 ≡ get_or w 20002 0 + 1 → i + n ≤ get_or w 20002 0 → Reads (λ s. length (queue to s)) w n → Reads (λ s. below to s.edits) w i
    → Opens (i + n) w w1 → Rewrites (i + n) 0 5940 x w1 w2 → Rewrites (i + n) 0 33 b w2 w3
    → (r : ResourceId) (p : Pending) → resource_id.Ok r → PendingFits document01 r p → x ≡ Slot r p → Edits (joined to (renamed to p)) w w3
slot_joins to w w1 w2 w3 b x n i M q c l N I O R1 R2 r p k ok e =
    let m : resource_id.Ok to = subst resource_id.Ok q M.ok in
    let E1 : EditsSlots (λ t. set t (i + n) (placed 0 5940 (padded 5940 x) (get_or t (i + n) []))) w1 w2 = R1.edits in
    laws.joins to w w1 w3 n i (λ y. placed 0 33 (padded 33 b) (placed 0 5940 (padded 5940 x) y)) (renamed to p) m N I O
    (writes.field_more (i + n) 0 33 b (placed 0 5940 (padded 5940 x)) (omega arith) E1 R2)
    (fields.moved_slot r to p b x k ok (M.is ∙ ap name_slot q) m e) (fields.renamed_fits r to p ok)

-- ---- moving

pub moves_none : (from to : ResourceId) (w : List ℕ) (j : ℕ) → FindsEntry from j w None → Edits (moved from j to) w w
unfolding moved match◌none:◌some:◌ EntryIs
moves_none from to w j F = record { makes = λ s h. rw (F.is s h) h }

pub has_state : {f : SyncState → SyncState} {w w' : List ℕ} → HasState w → Edits f w w' → HasState w'
has_state {f} H E = record { state = f H.state; keeps = E.makes H.state H.keeps }

pub room_left : (r : ResourceId) (w w' : List ℕ) (j p : ℕ) → HasState w → FindsEntry r j w (Some p) → Edits (λ s. put_queue r (without j (queue r s)) s) w w' → get_or w' 20002 0 < 6
unfolding without document01 EntryIs
room_left r w w' j at H F E =
    let s = H.state in
    let h = H.keeps in
    let q : Queue = queue r s in
    let C = splices.cut_of r h in
    let u : Queue = take j q ++ drop (suc j) q in
    let c : j < length (queue r s) = lists.nth_below j (queue r s) (F.is s h).entry (F.is s h).is.got in
    let d : get_or w' 20002 0 ≡ length (Flat (put_in r u s.edits)) = (splices.slots_of_lem (E.makes s h)).count in
    let e : length (Flat (put_in r u s.edits)) ≡ length C.pre + length (Rows r u ++ C.post) = ap length (C.put u) ∙ length-append C.pre (Rows r u ++ C.post) in
    let f : length (Rows r u ++ C.post) ≡ length (Rows r u) + length C.post = length-append (Rows r u) C.post in
    let g : length (Rows r u) ≡ length (take j q) + length (drop (suc j) q) = length-map (Slot r) u ∙ length-append (take j q) (drop (suc j) q) in
    let i : length (take j q) ≡ j = length-take-le j q (omega arith) in
    let k : length (drop (suc j) q) ≡ length q - suc j = length-drop (suc j) q in
    let m = splices.rows_count r h in
    let o : length C.pre ≡ below r s.edits = C.first in
    let p : length (Flat s.edits) ≤ 6 = h.fits.edits.small in
    omega arith

pub moves : (from to : ResourceId) (w w1 w2 x : List ℕ) (j p : ℕ) → resource_id.Ok from → FindsEntry from j w (Some p)
    → x ≡ take 5940 (drop p w) → Edits (λ s. put_queue from (without j (queue from s)) s) w w1
    → ((r : ResourceId) (p : Pending) → resource_id.Ok r → PendingFits document01 r p → x ≡ Slot r p → Edits (joined to (renamed to p)) w1 w2)
    → Edits (moved from j to) w w2
unfolding moved match◌none:◌some:◌ EntryIs
moves from to w w1 w2 x j p k F e E f = record {
  makes = λ s h.
      let A = (F.is s h).is in
      let g = (F.is s h).entry in
      rw A.got ((f from g k A.fits (e ∙ A.slot)).makes (put_queue from (without j (queue from s)) s) (E.makes s h));
}
