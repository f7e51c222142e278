-- `start_edit` and `finish`: what each does in terms of the other, and that the queue's length falls at each round. Assumes nothing.
use Rattle.std.specs.Prelude.{Option, Some, None}
use Rattle.format.proofs.Options.{None-ne-Some}
use Prim.Native.Nat.{ℕ, ◌+◌, ◌*◌, ◌<◌}
use native.Mathlib.Omega.{arith}
use mathlib.Core.Path.{◌≡◌, refl, sym, ap, ◌∙◌, subst}
use mathlib.Core.List.{List, [], ◌∷◌, ◌++◌}
use mathlib.Core.Bool.{Bool, true, false}
use lib.Dec.{leb, T}
use lib.ListN.{length, take, drop}
use Rattle.std.specs.declared.cmp.Ordering.TheVariants.{Equal}
use Rattle.tables.specs.Table.{slots_of}
use Rattle.model.specs.Event.{ProviderEvent}
use Rattle.model.specs.Seam.{ResourceId}
use Rattle.model.specs.Seam as seam
use Rattle.model.specs.Parts.{Role}
use Rattle.model.specs.Edits.{Operation, EditId}
use Rattle.model.specs.Calls.{Rejection, Notice, Effect}
use Rattle.model.specs.Limits.{max_effects, document01}
use Rattle.model.specs.Formats.{enc_effects}
use Rattle.model.specs.State.{Pending, Queue, SyncState, Purpose}
use Rattle.model.specs.Maps.{when◌then◌else◌, is_some_and, by_name, keys}
use Rattle.model.specs.Machine.{Machine, Run, refused, ok, ◌>>=◌, for_each, match◌none:◌some:◌, tell, push, request, with_state, queue_of, set_queue}
use Rattle.model.specs.Sync.{assigns_ids, is_attendee, creates_under_key, ids_of, ending, notify, read_for_edit, start_head, start_edit, finish_queue, finish}
use Rattle.model.specs.WellFormed.{rising}
use Rattle.model.proofs.Holds as model
use Rattle.model.proofs.InFlight.{notify_state, found_set}
use Rattle.model.proofs.Mutual.{finish_is, start_edit_is, bind_same}
use Rattle.state.specs.Values.{name_of}
use Rattle.state.specs.Contract.{HasState, Reads, Edits}
use Rattle.state.proofs.Regions.{layout_same}
use Rattle.waiting.specs.Queues.{queue, queue_in, put_queue, nth, without}
use Rattle.waiting.specs.declared.readers.OperationCase.{OperationCase}
use Rattle.waiting.specs.declared.readers.OperationCase.TheVariants as Case
use Rattle.waiting.specs.Reading.{case_of, operation_case_of, by_attendee}
use Rattle.waiting.specs.Slots.{tallied}
use Rattle.waiting.proofs.Bridge.{queue_is, put_is, set_queue_is}
use Rattle.waiting.proofs.Splices as splices
use Rattle.waiting.proofs.Laws as waiting
use Rattle.machine.specs.declared.Progress.{Progress}
use Rattle.machine.specs.Contract.{Does}
use Rattle.machine.proofs.Runs as runs
use Rattle.queues.specs.declared.head.Beginning.{Beginning}
use Rattle.queues.specs.declared.head.Beginning.TheVariants as Begin
use Rattle.queues.specs.Heads.{Start, meant_beginning, begins_write, begins_delete, begins_by, begins_as, created, created_by, notify_at}
use Rattle.queues.proofs.Heads.{head_is}

-- ---- how a head begins

attendee_is : (x : Role) → by_attendee x ≡ is_attendee x
unfolding by_attendee is_attendee
attendee_is Role.Owner = refl
attendee_is (Role.Attendee a) = refl

-- cases told apart by a number
abbrev case_number : Option OperationCase → ℕ
case_number None = 0
case_number (Some Case.Create) = 1
case_number (Some Case.Update) = 2
case_number (Some Case.Delete) = 3

no_case : {a b : Option OperationCase} → a ≡ b → (case_number a ≡ case_number b → ⊥) → ⊥
no_case e k = k (ap case_number e)

begins_writing : (x : Option Pending) (b : Bool) → Some Case.Create ≡ operation_case_of x → b ≡ is_some_and (λ p. creates_under_key p.edit.operation) x → begins_write b ≡ begins_as x
unfolding operation_case_of begins_as begins_by is_some_and creates_under_key
begins_writing None b e k = absurd (None-ne-Some Case.Create (sym e))
begins_writing (Some p) b e k = go p.edit.operation e k
  where
    go : (o : Operation) → Some Case.Create ≡ Some (case_of o) → b ≡ creates_under_key o → begins_write b ≡ begins_by o p.edit.role
    go (Operation.Create event) e k = ap begins_write k
    go (Operation.Update base ours) e k = absurd (no_case e (λ n. omega arith))
    go Operation.Delete e k = absurd (no_case e (λ n. omega arith))

begins_deleting : (x : Option Pending) (b : Bool) → Some Case.Delete ≡ operation_case_of x → b ≡ is_some_and (λ p. by_attendee p.edit.role) x → begins_delete b ≡ begins_as x
unfolding operation_case_of begins_as begins_by is_some_and
begins_deleting None b e k = absurd (None-ne-Some Case.Delete (sym e))
begins_deleting (Some p) b e k = go p.edit.operation e
  where
    go : (o : Operation) → Some Case.Delete ≡ Some (case_of o) → begins_delete b ≡ begins_by o p.edit.role
    go (Operation.Create event) e = absurd (no_case e (λ n. omega arith))
    go (Operation.Update base ours) e = absurd (no_case e (λ n. omega arith))
    go Operation.Delete e = ap begins_delete (k ∙ attendee_is p.edit.role)

begins_otherwise : (x : Option Pending) → Some Case.Update ≡ operation_case_of x → Start.Read ≡ begins_as x
unfolding operation_case_of begins_as begins_by
begins_otherwise None e = absurd (None-ne-Some Case.Update (sym e))
begins_otherwise (Some p) e = go p.edit.operation e
  where
    go : (o : Operation) → Some Case.Update ≡ Some (case_of o) → Start.Read ≡ begins_by o p.edit.role
    go (Operation.Create event) e = absurd (no_case e (λ n. omega arith))
    go (Operation.Update base ours) e = refl
    go Operation.Delete e = absurd (no_case e (λ n. omega arith))

begins_nothing : (x : Option Pending) → None ≡ operation_case_of x → Start.Nothing ≡ begins_as x
unfolding operation_case_of begins_as
begins_nothing None e = refl
begins_nothing (Some p) e = absurd (None-ne-Some (case_of p.edit.operation) e)

module _ (r : ResourceId) {w : List ℕ} {c : Option OperationCase} (C : Reads (λ s. operation_case_of (nth 0 (queue r s))) w c) where
  pub begin_none : c ≡ None → Reads (λ s. begins_as (nth 0 (queue r s))) w Start.Nothing
  begin_none e = record { is = λ s h. begins_nothing (nth 0 (queue r s)) (sym e ∙ C.is s h) }

  pub begin_write : (b : Bool) {b' : Bool} → c ≡ Some Case.Create → Reads (λ s. is_some_and (λ p. creates_under_key p.edit.operation) (nth 0 (queue r s))) w b' → b' ≡ b → Reads (λ s. begins_as (nth 0 (queue r s))) w (begins_write b)
  begin_write b e L k = record { is = λ s h. begins_writing (nth 0 (queue r s)) b (sym e ∙ C.is s h) (sym k ∙ L.is s h) }

  pub begin_delete : (b : Bool) {b' : Bool} → c ≡ Some Case.Delete → Reads (λ s. is_some_and (λ p. by_attendee p.edit.role) (nth 0 (queue r s))) w b' → b' ≡ b → Reads (λ s. begins_as (nth 0 (queue r s))) w (begins_delete b)
  begin_delete b e L k = record { is = λ s h. begins_deleting (nth 0 (queue r s)) b (sym e ∙ C.is s h) (sym k ∙ L.is s h) }

  pub begin_read : c ≡ Some Case.Update → Reads (λ s. begins_as (nth 0 (queue r s))) w Start.Read
  begin_read e = record { is = λ s h. begins_otherwise (nth 0 (queue r s)) (sym e ∙ C.is s h) }

-- ---- start_edit

-- one state, so what is read of it is read of every state that the buffer keeps
pub reads_any : {A : Type 0} (f : SyncState → A) {w : List ℕ} (H : HasState w) → Reads f w (f H.state)
reads_any f H = record {
  is = λ s h. ap f (layout_same document01 H.state s H.keeps.fits h.fits (sym H.keeps.bytes ∙ h.bytes));
}

-- cases told apart by a number
abbrev number_of : Start → ℕ
number_of Start.Nothing = 0
number_of Start.Create = 1
number_of Start.Read = 2
number_of (Start.Finish rejection) = 3

abbrev started : ResourceId → Option Pending → Machine → Run
started r x m = match x none: ok m some: (λ p. start_head r p.edit.operation p.edit.role (finish r (Some Rejection.NotOwner) m) m)

-- what `start_head` does, by how the head begins
abbrev begun : Start → Run → Run → Run → (Rejection → Run) → Run
begun Start.Nothing a b c d = a
begun Start.Create a b c d = b
begun Start.Read a b c d = c
begun (Start.Finish rejection) a b c d = d rejection

writes_so : (b : Bool) (x y z : Run) (u : Rejection → Run) → begun (begins_write b) x y z u ≡ (when b then z else y)
unfolding when◌then◌else◌
writes_so true x y z u = refl
writes_so false x y z u = refl

deletes_so : (b : Bool) (x y z : Run) (u : Rejection → Run) → begun (begins_delete b) x y z u ≡ (when b then u Rejection.NotOwner else z)
unfolding when◌then◌else◌
deletes_so true x y z u = refl
deletes_so false x y z u = refl

module _ (r : ResourceId) (m : Machine) where
  -- the write of an entry that creates; another's is not asked for
  abbrev written : Option ProviderEvent → Run
  written None = ok m
  written (Some event) = request (Purpose.EditWrite r) (seam.Request.Create r event) m

  starts_op : (o : Operation) (x : Role) (k : Rejection → Run) → start_head r o x (k Rejection.NotOwner) m ≡ begun (begins_by o x) (ok m) (written (created_by o)) (read_for_edit r m) k
  unfolding start_head begins_by created_by
  starts_op (Operation.Create event) x k = sym (writes_so (assigns_ids event) (ok m) (written (Some event)) (read_for_edit r m) k)
  starts_op (Operation.Update base ours) x k = refl
  starts_op Operation.Delete x k = sym (deletes_so (is_attendee x) (ok m) (ok m) (read_for_edit r m) k)

  starts_as : (x : Option Pending) → started r x m ≡ begun (begins_as x) (ok m) (written (created x)) (read_for_edit r m) (λ rejection. finish r (Some rejection) m)
  unfolding begins_as created match◌none:◌some:◌
  starts_as None = refl
  starts_as (Some p) = starts_op p.edit.operation p.edit.role (λ rejection. finish r (Some rejection) m)

  pub start_is : T (rising by_name (keys m.state.edits)) → start_edit r m ≡ begun (begins_as (nth 0 (queue r m.state))) (ok m) (written (created (nth 0 (queue r m.state)))) (read_for_edit r m) (λ rejection. finish r (Some rejection) m)
  start_is t = start_edit_is r m t ∙ ap (λ (x : Option Pending). started r x m) (sym (head_is r m)) ∙ starts_as (nth 0 (queue r m.state))

-- a head that is to be written has an event
event_by : (o : Operation) (x : Role) → 1 ≡ number_of (begins_by o x) → (event : ProviderEvent) × (created_by o ≡ Some event)
unfolding begins_by created_by
event_by (Operation.Create event) x e = (event, refl)
event_by (Operation.Update base ours) x e = absurd (omega arith)
event_by Operation.Delete x e = absurd (go (is_attendee x) e)
  where
    go : (b : Bool) → 1 ≡ number_of (begins_delete b) → ⊥
    go true e = omega arith
    go false e = omega arith

event_in : (x : Option Pending) → 1 ≡ number_of (begins_as x) → (event : ProviderEvent) × (created x ≡ Some event)
unfolding begins_as created
event_in None e = absurd (omega arith)
event_in (Some p) e = event_by p.edit.operation p.edit.role e

pub start_nothing : (r : ResourceId) {w o : List ℕ} {p : Progress} {b : Beginning} → Reads (λ s. begins_as (nth 0 (queue r s))) w (meant_beginning b) → b ≡ Begin.Nothing → Does (start_edit r) w o p p w o
start_nothing r B e = runs.is_held (start_edit r)
    (λ m h. sym (start_is r m h.keeps.fits.edits.rises ∙ ap (λ (x : Start). begun x (ok m) (written r m (created (nth 0 (queue r m.state)))) (read_for_edit r m) (λ rejection. finish r (Some rejection) m)) (sym (B.is m.state h.keeps) ∙ ap meant_beginning e)))
    runs.nothing

module _ (r : ResourceId) {w o w' o' : List ℕ} {p q : Progress} {b : Beginning} (B : Reads (λ s. begins_as (nth 0 (queue r s))) w (meant_beginning b)) where
  pub start_read : b ≡ Begin.Read → Does (read_for_edit r) w o p q w' o' → Does (start_edit r) w o p q w' o'
  start_read e d = runs.is_held (start_edit r)
      (λ m h. sym (start_is r m h.keeps.fits.edits.rises ∙ ap (λ (x : Start). begun x (ok m) (written r m (created (nth 0 (queue r m.state)))) (read_for_edit r m) (λ rejection. finish r (Some rejection) m)) (sym (B.is m.state h.keeps) ∙ ap meant_beginning e)))
      d

  pub start_finish : b ≡ Begin.NotOwner → Does (finish r (Some Rejection.NotOwner)) w o p q w' o' → Does (start_edit r) w o p q w' o'
  start_finish e d = runs.is_held (start_edit r)
      (λ m h. sym (start_is r m h.keeps.fits.edits.rises ∙ ap (λ (x : Start). begun x (ok m) (written r m (created (nth 0 (queue r m.state)))) (read_for_edit r m) (λ rejection. finish r (Some rejection) m)) (sym (B.is m.state h.keeps) ∙ ap meant_beginning e)))
      d

  pub start_create : b ≡ Begin.Create → HasState w → ((event : ProviderEvent) → Reads (λ s. created (nth 0 (queue r s))) w (Some event) → Does (request (Purpose.EditWrite r) (seam.Request.Create r event)) w o p q w' o') → Does (start_edit r) w o p q w' o'
  start_create e H d =
      let E = event_in (nth 0 (queue r H.state)) (ap number_of (sym (ap meant_beginning e) ∙ B.is H.state H.keeps)) in
      let R : Reads (λ s. created (nth 0 (queue r s))) w (Some E.0) = subst (Reads (λ s. created (nth 0 (queue r s))) w) E.1 (reads_any (λ s. created (nth 0 (queue r s))) H) in
      runs.is_held (start_edit r)
      (λ m h. sym (start_is r m h.keeps.fits.edits.rises
      ∙ ap (λ (x : Start). begun x (ok m) (written r m (created (nth 0 (queue r m.state)))) (read_for_edit r m) (λ rejection. finish r (Some rejection) m)) (sym (B.is m.state h.keeps) ∙ ap meant_beginning e)
      ∙ ap (written r m) (sym (R.is m.state h.keeps))))
      (d E.0 R)

-- ---- finish

-- a notice looks only at the effects, and an assignment only at the state
tell_apart : (n : Notice) (s : SyncState) (m : Machine) → tell n (with_state s m) ≡ (tell n m >>= λ m'. ok (with_state s m'))
unfolding tell push when◌then◌else◌ ◌>>=◌
tell_apart n s m = go (leb (length (enc_effects (m.out ++ Effect.Notify n ∷ []))) max_effects) (record { limits = m.limits; state = m.state; out = m.out ++ Effect.Notify n ∷ [] })
  where
    go : (b : Bool) (m' : Machine) → (when b then ok (with_state s m') else refused 7) ≡ ((when b then ok m' else refused 7) >>= λ m'. ok (with_state s m'))
    go true m' = refl
    go false m' = refl

tells_apart : (f : EditId → Notice) (xs : List EditId) (s : SyncState) (m : Machine) → for_each (λ x. tell (f x)) xs (with_state s m) ≡ (for_each (λ x. tell (f x)) xs m >>= λ m'. ok (with_state s m'))
unfolding for_each ◌>>=◌
tells_apart f [] s m = refl
tells_apart f (x ∷ xs) s m = ap (λ (r : Run). r >>= for_each (λ x. tell (f x)) xs) (tell_apart (f x) s m) ∙ go (tell (f x) m) (λ m'. tells_apart f xs s m')
  where
    go : (r : Run) → ((m' : Machine) → for_each (λ x. tell (f x)) xs (with_state s m') ≡ (for_each (λ x. tell (f x)) xs m' >>= λ m''. ok (with_state s m'')))
        → ((r >>= λ m'. ok (with_state s m')) >>= for_each (λ x. tell (f x)) xs) ≡ ((r >>= for_each (λ x. tell (f x)) xs) >>= λ m'. ok (with_state s m'))
    go (refused n) ih = refl
    go (ok m') ih = ih m'

pub notify_apart : (p : Pending) (rejection : Option Rejection) (s : SyncState) (m : Machine) → notify p rejection (with_state s m) ≡ (notify p rejection m >>= λ m'. ok (with_state s m'))
unfolding notify
notify_apart p rejection s m = tells_apart (λ id. ending p rejection id) (ids_of p) s m

pub bind_assoc : (r : Run) (s : Machine → SyncState) (g : Machine → Run) → ((r >>= λ m. ok (with_state (s m) m)) >>= g) ≡ (r >>= λ m. g (with_state (s m) m))
unfolding ◌>>=◌
bind_assoc (refused n) s g = refl
bind_assoc (ok m) s g = refl

-- the head's ids are told, and then it goes
abbrev headless : ResourceId → SyncState → SyncState
headless r s = put_queue r (without 0 (queue r s)) s

ends_so : (r : ResourceId) (rejection : Option Rejection) (m : Machine) (p : Pending) (q : Queue) → queue_of r m ≡ p ∷ q
    → (notify p rejection m >>= λ m'. start_edit r (with_state (headless r m'.state) m')) ≡ finish r rejection m
unfolding without
ends_so r rejection m p q e =
    let s : SyncState = put_queue r q m.state in
    let g : Machine → Run = start_edit r in
    let k : headless r m.state ≡ put_queue r q m.state = ap (λ (x : Queue). put_queue r (without 0 x) m.state) (sym (queue_is r m) ∙ e) in
    let a : (notify p rejection m >>= λ m'. start_edit r (with_state (headless r m'.state) m')) ≡ (notify p rejection m >>= λ m'. start_edit r (with_state (put_queue r q m.state) m')) =
    bind_same (model.weaken (notify_state p rejection m) (λ m' y. ap (λ (x : SyncState). start_edit r (with_state x m')) (ap (headless r) y ∙ k))) in
    let b : (notify p rejection (set_queue r q m) >>= λ m'. start_edit r m') ≡ (notify p rejection m >>= λ m'. start_edit r (with_state (put_queue r q m.state) m')) =
    ap (λ (x : Machine). notify p rejection x >>= start_edit r) (set_queue_is r q m) ∙ ap (λ (x : Run). x >>= start_edit r) (notify_apart p rejection (put_queue r q m.state) m) ∙ bind_assoc (notify p rejection m) (λ m'. put_queue r q m.state) (start_edit r) in
    a ∙ sym b ∙ sym (finish_is r rejection m p q e)

finish_empty : (r : ResourceId) (rejection : Option Rejection) (m : Machine) (q : Queue) → queue_of r m ≡ q → 0 ≡ length q → ok m ≡ finish r rejection m
unfolding finish finish_queue
finish_empty r rejection m [] k e = ap (λ (x : Queue). finish_queue r rejection x m) (sym k)
finish_empty r rejection m (p ∷ q) k e = absurd (omega arith)

told_head : (r : ResourceId) (rejection : Option Rejection) (m : Machine) (p : Pending) (q : Queue) → queue_of r m ≡ p ∷ q → notify_at 0 r rejection m ≡ notify p rejection m
unfolding notify_at match◌none:◌some:◌ nth
told_head r rejection m p q k = ap (λ (x : Queue). match nth 0 x none: ok m some: (λ p. notify p rejection m)) k

finish_full : (r : ResourceId) (rejection : Option Rejection) (m : Machine) (q : Queue) → queue_of r m ≡ q → (length q ≡ 0 → ⊥)
    → (notify_at 0 r rejection m >>= λ m'. start_edit r (with_state (headless r m'.state) m')) ≡ finish r rejection m
finish_full r rejection m [] k ne = absurd (ne refl)
finish_full r rejection m (p ∷ q) k ne = ap (λ (x : Run). x >>= λ m'. start_edit r (with_state (headless r m'.state) m')) (told_head r rejection m p q k) ∙ ends_so r rejection m p q k

module _ (r : ResourceId) (rejection : Option Rejection) {w : List ℕ} {n : ℕ} (N : Reads (λ s. length (queue r s)) w n) where
  pub finish_none : {o : List ℕ} {p : Progress} → n ≡ 0 → Does (finish r rejection) w o p p w o
  finish_none e = runs.is_held (finish r rejection) (λ m h. finish_empty r rejection m (queue r m.state) (queue_is r m) (sym e ∙ N.is m.state h.keeps)) runs.nothing

  pub finish_next : {o o₁ w₁ w₂ o₂ : List ℕ} {p q s : Progress} → (n ≡ 0 → ⊥) → Does (notify_at 0 r rejection) w o p q w o₁ → Edits (λ s. put_queue r (without 0 (queue r s)) s) w w₁ → Does (start_edit r) w₁ o₁ q s w₂ o₂
      → Does (finish r rejection) w o p s w₂ o₂
  finish_next ne D E S =
      runs.is_held (finish r rejection) (λ m h. finish_full r rejection m (queue r m.state) (queue_is r m) (λ z. ne (N.is m.state h.keeps ∙ z)))
      (runs.next D (runs.edit {f = headless r} {g = start_edit r} E S))

-- ---- the queue's length falls

-- the entries whose key is the name
abbrev pub queue_length : List ℕ → List ℕ → ℕ
queue_length b w = tallied Equal b (slots_of 5940 (take 35641 (drop 20002 w)))

pub length_read : (b w : List ℕ) → Reads (λ s. length (queue (name_of b) s)) w (queue_length b w)
length_read b w = splices.reads_own b w (queue_length b w) (name_of b) refl (waiting.tallied_in Equal b w (queue_length b w) refl)

put_found : (r : ResourceId) (s : SyncState) (q : Queue) → T (rising by_name (keys s.edits)) → queue r (put_queue r q s) ≡ q
unfolding queue_in
put_found r s q t =
    let m : Machine = record { limits = document01; state = s; out = [] } in
    ap (λ (x : SyncState). queue r x) (sym (put_is r q (record { limits = document01; state = s; out = [] }))) ∙ found_set r q (record { limits = document01; state = s; out = [] }) t

shorter : (q : Queue) → (length q ≡ 0 → ⊥) → length (without 0 q) + 1 ≡ length q
unfolding without
shorter [] ne = absurd (ne refl)
shorter (p ∷ q) ne = omega arith

pub falls : (b w w₁ : List ℕ) (n t : ℕ) → HasState w → Reads (λ s. length (queue (name_of b) s)) w n → (n ≡ 0 → ⊥) → Edits (λ s. put_queue (name_of b) (without 0 (queue (name_of b) s)) s) w w₁
    → 2 * queue_length b w ≡ t → 2 * queue_length b w₁ + 1 < t
falls b w w₁ n t H N ne E e =
    let r : ResourceId = name_of b in
    let s : SyncState = H.state in
    let x : n ≡ length (queue (name_of b) H.state) = N.is H.state H.keeps in
    let y : queue_length b w ≡ length (queue (name_of b) H.state) = (length_read b w).is H.state H.keeps in
    let z : queue_length b w₁ ≡ length (queue (name_of b) (headless (name_of b) H.state)) = (length_read b w₁).is (headless (name_of b) H.state) (E.makes H.state H.keeps) in
    let u : queue (name_of b) (headless (name_of b) H.state) ≡ without 0 (queue (name_of b) H.state) = put_found (name_of b) H.state (without 0 (queue (name_of b) H.state)) H.keeps.fits.edits.rises in
    let v : length (queue (name_of b) (headless (name_of b) H.state)) ≡ length (without 0 (queue (name_of b) H.state)) = ap length u in
    let l = shorter (queue (name_of b) H.state) (λ k. ne (x ∙ k)) in
    omega arith
