-- The head of a queue: what its bytes say, and the effects that it gives. Assumes nothing.
use Rattle.std.specs.Prelude.{Option, Some, None}
use Prim.Native.Nat.{ℕ, ◌+◌, ◌≤◌, ◌<◌}
use native.Mathlib.Nat.{add-zero}
use native.Mathlib.Omega.{arith}
use mathlib.Core.Path.{◌≡◌, refl, sym, ap, ap₂, ◌∙◌, subst}
use mathlib.Core.List.{List, [], ◌∷◌}
use mathlib.Core.Bool.{Bool, true, false, ◌&&◌}
use lib.Dec.{eqb}
use lib.ListN.{take, drop, get_or}
use lib.Seq.{get_or-take, get_or-drop}
use Rattle.format.specs.Format.{enum, ◌∣◌, via, below, ◌⊗◌}
use Rattle.model.specs.Event.{Provider, ProviderEvent}
use Rattle.model.specs.Seam.{ResourceId}
use Rattle.model.specs.Seam as seam
use Rattle.model.specs.Edits.{Operation}
use Rattle.model.specs.Shapes.{provider_from}
use Rattle.model.specs.Formats.{operation_f, event_f, ids_f, provider_f}
use Rattle.model.specs.State.{Pending, Purpose}
use Rattle.model.specs.Maps.{when◌then◌else◌, is_some_and, first}
use Rattle.model.specs.Machine.{Machine, request}
use Rattle.model.specs.Sync.{is_graph, assigns_ids, creates_under_key, looks_up, head, read_for_edit}
use Rattle.state.specs.Layout.{padded, field}
use Rattle.state.specs.Contract.{HasState, Reads}
use Rattle.waiting.specs.Queues.{queue, nth}
use Rattle.waiting.specs.Entries.{SomeEntryAt, EntryIs, FindsEntry}
use Rattle.waiting.proofs.Bridge.{queue_is}
use Rattle.machine.specs.declared.Progress.{Progress}
use Rattle.machine.specs.Contract.{Does}
use Rattle.machine.proofs.Runs as runs

-- ---- a byte of a field

pub byte_of : (w x : List ℕ) (at width k : ℕ) → take width (drop at w) ≡ x → k < width → get_or w (at + k) 0 ≡ get_or x k 0
byte_of w x at width k e l = sym (get_or-drop at w k 0) ∙ sym (get_or-take width (drop at w) k 0 l) ∙ ap (λ (y : List ℕ). get_or y k 0) e

-- ---- looks_up

graph_byte : (p : Provider) → eqb (provider_from p) 1 ≡ is_graph p
unfolding is_graph
graph_byte Provider.Google = refl
graph_byte Provider.Graph = refl
graph_byte Provider.CalDav = refl
graph_byte Provider.Ics = refl

event_byte : (e : ProviderEvent) → get_or (field 1469 operation_f (Operation.Create e)) 1 0 ≡ provider_from e.ids.provider
unfolding operation_f event_f ids_f provider_f via enum ◌∣◌ ◌⊗◌ below padded
event_byte e = refl

keyed_bytes : (o : Operation) → (eqb (get_or (field 1469 operation_f o) 0 0) 0 && eqb (get_or (field 1469 operation_f o) 1 0) 1) ≡ creates_under_key o
unfolding operation_f via enum ◌∣◌ padded creates_under_key assigns_ids
keyed_bytes (Operation.Create e) = ap (λ (n : ℕ). eqb n 1) (event_byte e) ∙ graph_byte e.ids.provider
keyed_bytes (Operation.Update base ours) = refl
keyed_bytes Operation.Delete = refl

pub keyed : (r : ResourceId) (w : List ℕ) (at : ℕ) (place : Option ℕ) (b : Bool) → FindsEntry r 0 w place → place ≡ Some at → b ≡ (eqb (get_or w (at + 66) 0) 0 && eqb (get_or w (at + 66 + 1) 0) 1)
    → Reads (λ s. is_some_and (λ p. creates_under_key p.edit.operation) (nth 0 (queue r s))) w b
unfolding EntryIs is_some_and
keyed r w at place b F e q = record {
  is = λ s h.
      let E : SomeEntryAt r 0 w s at = subst (EntryIs r 0 w s) e (F.is s h) in
      let o : Operation = E.entry.edit.operation in
      let x : List ℕ = field 1469 operation_f E.entry.edit.operation in
      let a : get_or w (at + 66) 0 ≡ get_or x 0 0 = ap (λ (i : ℕ). get_or w i 0) (sym (add-zero (at + 66))) ∙ byte_of w x (at + 66) 1469 0 E.is.operation (omega arith) in
      let c : get_or w (at + 66 + 1) 0 ≡ get_or x 1 0 = byte_of w x (at + 66) 1469 1 E.is.operation (omega arith) in
      q ∙ ap₂ (λ (i j : ℕ). eqb i 0 && eqb j 1) a c ∙ keyed_bytes E.entry.edit.operation ∙ ap (is_some_and (λ p. creates_under_key p.edit.operation)) (sym E.is.got);
}

pub keyed_none : (r : ResourceId) (w : List ℕ) (place : Option ℕ) → FindsEntry r 0 w place → place ≡ None
    → Reads (λ s. is_some_and (λ p. creates_under_key p.edit.operation) (nth 0 (queue r s))) w false
unfolding EntryIs is_some_and
keyed_none r w place F e = record {
  is = λ s h. sym (ap (is_some_and (λ p. creates_under_key p.edit.operation)) (subst (EntryIs r 0 w s) e (F.is s h)));
}

pub keyed_room : (j : ℕ) (r : ResourceId) (w : List ℕ) (at : ℕ) (place : Option ℕ) → HasState w → FindsEntry r j w place → place ≡ Some at → at + 5940 ≤ 55643
unfolding EntryIs
keyed_room j r w at place H F e = let E : SomeEntryAt r j w H.state at = subst (EntryIs r j w H.state) e (F.is H.state H.keeps) in E.is.room

-- ---- read_for_edit

nth_first : (q : List Pending) → nth 0 q ≡ first q
unfolding nth first
nth_first [] = refl
nth_first (p ∷ q) = refl

pub head_is : (r : ResourceId) (m : Machine) → nth 0 (queue r m.state) ≡ head r m
unfolding head
head_is r m = nth_first (queue r m.state) ∙ ap first (sym (queue_is r m))

module _ (r : ResourceId) {w o w' o' : List ℕ} {p q : Progress} {b : Bool} (R : Reads (λ s. is_some_and (λ p. creates_under_key p.edit.operation) (nth 0 (queue r s))) w b) where
  reads_as : (what : seam.Request) → (when b then seam.Request.Lookup r else seam.Request.Read r) ≡ what → Does (request (Purpose.EditRead r) what) w o p q w' o' → Does (read_for_edit r) w o p q w' o'
  unfolding read_for_edit looks_up
  reads_as what e d =
      runs.is_held (read_for_edit r)
      (λ m h. ap (λ (x : seam.Request). request (Purpose.EditRead r) x m)
      (sym e ∙ ap (λ (c : Bool). when c then seam.Request.Lookup r else seam.Request.Read r) (R.is m.state h.keeps ∙ ap (is_some_and (λ p. creates_under_key p.edit.operation)) (head_is r m))))
      d

  pub looked_up : b ≡ true → Does (request (Purpose.EditRead r) (seam.Request.Lookup r)) w o p q w' o' → Does (read_for_edit r) w o p q w' o'
  unfolding when◌then◌else◌
  looked_up e d = reads_as (seam.Request.Lookup r) (ap (λ (c : Bool). when c then seam.Request.Lookup r else seam.Request.Read r) e) d

  pub read_plain : b ≡ false → Does (request (Purpose.EditRead r) (seam.Request.Read r)) w o p q w' o' → Does (read_for_edit r) w o p q w' o'
  unfolding when◌then◌else◌
  read_plain e d = reads_as (seam.Request.Read r) (ap (λ (c : Bool). when c then seam.Request.Lookup r else seam.Request.Read r) e) d
