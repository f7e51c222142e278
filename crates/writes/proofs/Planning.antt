-- `plan` and `plan_update`, branch by branch. Assumes nothing.
use Rattle.std.specs.Prelude.{Option, Some, None}
use Rattle.format.proofs.Options.{Some-injective, None-ne-Some}
use Prim.Native.Nat.{ℕ, ◌+◌, ◌≤◌, ◌<◌}
use native.Mathlib.Omega.{arith}
use mathlib.Core.Path.{◌≡◌, refl, sym, ap, ◌∙◌, subst}
use mathlib.Core.List.{List}
use mathlib.Core.Bool.{Bool, true, false}
use lib.ListN.{length}
use borrow.Author.Tests.{le-leb, lt-leb}
use Rattle.model.specs.Event.{NormalizedEvent, ProviderEvent}
use Rattle.model.specs.Parts.{Role, MergeOutcome}
use Rattle.model.specs.Seam.{ResourceId, Request, resource_of}
use Rattle.model.specs.Calls.{Rejection}
use Rattle.model.specs.Edits.{Operation}
use Rattle.model.specs.Limits.{max_attendees}
use Rattle.model.specs.State.{Pending, Queue, Purpose}
use Rattle.model.specs.Maps.{when◌then◌else◌, is_some_and}
use Rattle.model.specs.Formats.{same, fields_f, event_f}
use Rattle.model.specs.Merge.{merge}
use Rattle.model.specs.Machine.{Machine, Run, refused, ok, match◌none:◌some:◌, with_state, request, queue_of}
use Rattle.model.specs.Sync.{assigns_ids, creates_under_key, with_plan, change_front, change_head, finish, remap, plan, plan_update}
use Rattle.state.specs.Contract.{HasState, Reads, Edits}
use Rattle.records.specs.Events.{IsEvent}
use Rattle.comparison.specs.Bytes.{span}
use Rattle.merge.specs.Given.{Begins}
use Rattle.merge.proofs.Room.{event_fits}
use Rattle.waiting.specs.Queues.{queue, put_queue, nth}
use Rattle.waiting.specs.Entries.{SomeEntryAt, FindsEntry}
use Rattle.waiting.specs.declared.readers.OperationCase.{OperationCase}
use Rattle.waiting.specs.declared.readers.OperationCase.TheVariants as Case
use Rattle.waiting.specs.Reading.{case_of, operation_case_of}
use Rattle.waiting.proofs.Bridge.{queue_is, head_is, plan_is, set_queue_is}
use Rattle.machine.specs.declared.Progress.{Progress}
use Rattle.machine.specs.Contract.{Ran, Does}
use Rattle.machine.specs.Steps.{refusal, unless}
use Rattle.machine.proofs.Runs as runs
use Rattle.machine.proofs.Steps as steps
use Rattle.queues.specs.Heads.{created, created_by}
use Rattle.queues.proofs.Starts.{reads_any}
use Rattle.writes.specs.Plans.{operation_part, GivenAt, HasGiven, Filled, with_merge, HeadCase, send_merged, plan_head}
use Rattle.writes.proofs.Plans.{filled_part}
use Rattle.writes.proofs.Entries.{begins_alone, event_begins, given, entry_found, no_entry}

-- ---- a refusal

pub refuses : {w o : List ℕ} {f : Machine → Run} {p q : Progress} (n : ℕ) → (n ≡ 0 → ⊥) → ((m : Machine) → f m ≡ refused n) → q ≡ unless p (refusal n) → Does f w o p q w o
unfolding Ran
refuses {w} {o} {f} {p} n z e k = subst (λ (q : Progress). Does f w o p q w o) (sym k) (record {
  run = λ y m h. subst (λ (r : Progress). Ran (f m) r w o) (sym (steps.going p (refusal n) y)) (subst (λ (x : Run). Ran x (refusal n) w o) (sym (e m)) (refl, z));
  stays = λ y. ap (λ (r : Progress). r.code) (steps.stopped p (refusal n) y);
  state = λ h. h;
})

-- ---- plan_update

module _ (r : ResourceId) {w o w' o' : List ℕ} {p q : Progress} (t : ProviderEvent) (merged : MergeOutcome) {b : Bool} (e : b ≡ merged.changed) where
  pub merge_writes : b ≡ true → Does (request (Purpose.EditWrite r) (Request.Update r t.revision merged.event)) w o p q w' o' → Does (send_merged r t merged) w o p q w' o'
  unfolding send_merged when◌then◌else◌
  merge_writes c d = runs.is (send_merged r t merged) (λ m. sym (rw (sym e ∙ c))) d

  pub merge_ends : b ≡ false → Does (finish r None) w o p q w' o' → Does (send_merged r t merged) w o p q w' o'
  unfolding send_merged when◌then◌else◌
  merge_ends c d = runs.is (send_merged r t merged) (λ m. sym (rw (sym e ∙ c))) d

pub too_many : (r : ResourceId) {w o : List ℕ} {p q : Progress} {n : ℕ} (b u : NormalizedEvent) (t : ProviderEvent) (by : Role) → n ≡ length (merge b u t by).event.fields.attendees → 8 < n → q ≡ unless p (refusal 6)
    → Does (plan_update r by b u t) w o p q w o
unfolding plan_update when◌then◌else◌ max_attendees
too_many r b u t by e l k = refuses 6 (λ z. omega arith) (λ m. rw (lt-leb (length (merge b u t by).event.fields.attendees) 8 (omega arith))) k

pub few_enough : {n : ℕ} (b u : NormalizedEvent) (t : ProviderEvent) (by : Role) → n ≡ length (merge b u t by).event.fields.attendees → n ≤ 8 → length (merge b u t by).event.fields.attendees ≤ max_attendees
unfolding max_attendees
few_enough b u t by e l = omega arith

head_planned : (r : ResourceId) (merged : MergeOutcome) (m : Machine) → change_head (with_plan merged) r m ≡ with_state (with_merge r merged m.state) m
unfolding change_head
head_planned r merged m =
    set_queue_is r (change_front (with_plan merged) (queue_of r m)) m
    ∙ ap (λ (q : Queue). with_state (put_queue r q m.state) m) (ap (change_front (with_plan merged)) (queue_is r m) ∙ plan_is merged (queue r m.state))

pub merges : (r : ResourceId) {w w₁ o w₂ o₂ : List ℕ} {p q : Progress} (b u : NormalizedEvent) (t : ProviderEvent) (by : Role) → length (merge b u t by).event.fields.attendees ≤ max_attendees
    → Edits (with_merge r (merge b u t by)) w w₁ → Does (send_merged r t (merge b u t by)) w₁ o p q w₂ o₂ → Does (plan_update r by b u t) w o p q w₂ o₂
unfolding plan_update when◌then◌else◌ send_merged
merges r b u t by l E d =
    runs.is (plan_update r by b u t)
    (λ m. sym (rw (le-leb (length (merge b u t by).event.fields.attendees) max_attendees l) (ap (send_merged r t (merge b u t by)) (head_planned r (merge b u t by) m))))
    (runs.edit E d)

-- the merged event in its array
pub merged_is : (w : List ℕ) (at : ℕ) {th a x : List ℕ} {n : ℕ} {b u : NormalizedEvent} {t : ProviderEvent} {by : Role} → GivenAt w at th b u t by → length (merge b u t by).event.fields.attendees ≤ max_attendees
    → Filled a n (event_f.enc (merge b u t by).event) → x ≡ span a 0 n → (Begins event_f x (merge b u t by).event) × (x ≡ event_f.enc (merge b u t by).event)
merged_is w at {n = n} {b} {u} {t} {by} G l F e =
    let k = filled_part n F e in
    (begins_alone event_f (merge b u t by).event (event_fits G l) k, k)

pub begins_as : {s : List ℕ} (t : ProviderEvent) {u : ProviderEvent} → s ≡ event_f.enc t → Begins event_f (event_f.enc t) u → Begins event_f s u
begins_as t e B = record { fits = B.fits; rest = B.rest; bytes = e ∙ B.bytes }

pub head_case : (r : ResourceId) {w : List ℕ} {c k : Option OperationCase} → HeadCase r w c → c ≡ k → HeadCase r w k
head_case r {w} C e = subst (HeadCase r w) e C

-- ---- the head

head_of : (r : ResourceId) {w : List ℕ} (k : OperationCase) (H : HasState w) → HeadCase r w (Some k) → (p : Pending) × (Reads (λ s. nth 0 (queue r s)) w (Some p)) × (k ≡ case_of p.edit.operation)
unfolding operation_case_of
head_of r {w} k H C = go (nth 0 (queue r H.state)) (reads_any (λ s. nth 0 (queue r s)) H) (C.is H.state H.keeps)
  where
    go : (x : Option Pending) → Reads (λ s. nth 0 (queue r s)) w x → Some k ≡ operation_case_of x → (p : Pending) × (Reads (λ s. nth 0 (queue r s)) w (Some p)) × (k ≡ case_of p.edit.operation)
    go None X e = absurd (None-ne-Some k (sym e))
    go (Some p) X e = (p, X, Some-injective k (case_of p.edit.operation) e)

-- cases told apart by a number
abbrev case_number : OperationCase → ℕ
case_number Case.Create = 0
case_number Case.Update = 1
case_number Case.Delete = 2

no_case : {a b : OperationCase} → a ≡ b → (case_number a ≡ case_number b → ⊥) → ⊥
no_case e k = k (ap case_number e)

create_op : (o : Operation) → Case.Create ≡ case_of o → (e : ProviderEvent) × (o ≡ Operation.Create e)
create_op (Operation.Create e) z = (e, refl)
create_op (Operation.Update b u) z = absurd (no_case z (λ n. omega arith))
create_op Operation.Delete z = absurd (no_case z (λ n. omega arith))

update_op : (o : Operation) → Case.Update ≡ case_of o → (b : NormalizedEvent) × (u : NormalizedEvent) × (o ≡ Operation.Update b u)
update_op (Operation.Create e) z = absurd (no_case z (λ n. omega arith))
update_op (Operation.Update b u) z = (b, u, refl)
update_op Operation.Delete z = absurd (no_case z (λ n. omega arith))

delete_op : (o : Operation) → Case.Delete ≡ case_of o → o ≡ Operation.Delete
delete_op (Operation.Create e) z = absurd (no_case z (λ n. omega arith))
delete_op (Operation.Update b u) z = absurd (no_case z (λ n. omega arith))
delete_op Operation.Delete z = refl

abbrev on_front : ResourceId → Option ProviderEvent → Option Pending → Machine → Run
on_front r th x m = match x none: ok m some: (λ e. plan r e e.edit.operation th m)

module _ (r : ResourceId) {w o w' o' : List ℕ} {p q : Progress} where
  plan_as : (th : Option ProviderEvent) (x : Option Pending) → Reads (λ s. nth 0 (queue r s)) w x → Does (on_front r th x) w o p q w' o' → Does (plan_head r th) w o p q w' o'
  unfolding plan_head
  plan_as th x X d = runs.is_held (plan_head r th) (λ m h. ap (λ (y : Option Pending). on_front r th y m) (X.is m.state h.keeps ∙ sym (head_is r m))) d

  plan_op : (th : Option ProviderEvent) (e : Pending) (a : Operation) → Reads (λ s. nth 0 (queue r s)) w (Some e) → e.edit.operation ≡ a → Does (plan r e a th) w o p q w' o' → Does (plan_head r th) w o p q w' o'
  unfolding match◌none:◌some:◌
  plan_op th e a X k d = plan_as th (Some e) X (runs.is (on_front r th (Some e)) (λ m. ap (λ (b : Operation). plan r e b th m) (sym k)) d)

pub plan_nothing : (r : ResourceId) {w o : List ℕ} {p : Progress} (th : Option ProviderEvent) → HasState w → HeadCase r w None → Does (plan_head r th) w o p p w o
unfolding operation_case_of match◌none:◌some:◌
plan_nothing r {w} {o} {p} th H C = go (nth 0 (queue r H.state)) (reads_any (λ s. nth 0 (queue r s)) H) (C.is H.state H.keeps)
  where
    go : (u : Option Pending) → Reads (λ s. nth 0 (queue r s)) w u → None ≡ operation_case_of u → Does (plan_head r th) w o p p w o
    go None X e = plan_as r th None X runs.nothing
    go (Some a) X e = absurd (None-ne-Some (case_of a.edit.operation) e)

pub plan_missing : (r : ResourceId) {w o : List ℕ} {p : Progress} {place : Option ℕ} (th : Option ProviderEvent) → FindsEntry r 0 w place → place ≡ None → Does (plan_head r th) w o p p w o
unfolding match◌none:◌some:◌
plan_missing r th F e = plan_as r th None (record { is = λ s h. sym (no_entry r F e s h) }) runs.nothing

-- ---- a delete

module _ (r : ResourceId) {w : List ℕ} (H : HasState w) (C : HeadCase r w (Some Case.Delete)) where
  abbrev deletes : (x : Pending) × (Reads (λ s. nth 0 (queue r s)) w (Some x)) × (Case.Delete ≡ case_of x.edit.operation)
  deletes = head_of r Case.Delete H C

  pub plan_deletes : {o w' o' : List ℕ} {p q : Progress} (t : ProviderEvent) → Does (request (Purpose.EditWrite r) (Request.Delete r t.revision)) w o p q w' o' → Does (plan_head r (Some t)) w o p q w' o'
  unfolding plan
  plan_deletes t d = plan_op r (Some t) deletes.0 Operation.Delete deletes.1 (delete_op deletes.0.edit.operation deletes.2) (runs.is (plan r deletes.0 Operation.Delete (Some t)) (λ m. refl) d)

  pub delete_gone : {o w' o' : List ℕ} {p q : Progress} → Does (finish r None) w o p q w' o' → Does (plan_head r None) w o p q w' o'
  unfolding plan
  delete_gone d = plan_op r None deletes.0 Operation.Delete deletes.1 (delete_op deletes.0.edit.operation deletes.2) (runs.is (plan r deletes.0 Operation.Delete None) (λ m. refl) d)

-- ---- an update

pub update_gone : (r : ResourceId) {w o w' o' : List ℕ} {p q : Progress} (H : HasState w) → HeadCase r w (Some Case.Update) → Does (finish r (Some Rejection.Gone)) w o p q w' o' → Does (plan_head r None) w o p q w' o'
unfolding plan
update_gone r H C d =
    let h = head_of r Case.Update H C in
    let k = update_op h.0.edit.operation h.2 in
    plan_op r None h.0 (Operation.Update k.0 k.1) h.1 k.2 (runs.is (plan r h.0 (Operation.Update k.0 k.1) None) (λ m. refl) d)

module _ (r : ResourceId) {w : List ℕ} {place : Option ℕ} (at : ℕ) (H : HasState w) (C : HeadCase r w (Some Case.Update)) (F : FindsEntry r 0 w place) (f : place ≡ Some at) where
  abbrev entry : SomeEntryAt r 0 w H.state at
  entry = entry_found r F f H.state H.keeps

  update_is : (b : NormalizedEvent) × (u : NormalizedEvent) × (entry.entry.edit.operation ≡ Operation.Update b u)
  unfolding operation_case_of
  update_is = update_op entry.entry.edit.operation (Some-injective Case.Update (case_of entry.entry.edit.operation) (C.is H.state H.keeps ∙ ap operation_case_of entry.is.got))

  pub entry_room : at + 5940 ≤ 55643
  entry_room = entry.is.room

  pub update_given : {th : List ℕ} → IsEvent th → HasGiven w at th
  update_given I = record {
    base = update_is.0;
    ours = update_is.1;
    event = I.event;
    role = entry.entry.edit.role;
    given = given entry.is H.keeps update_is.0 update_is.1 update_is.2 (begins_alone event_f I.event I.ok I.is);
  }

  pub plan_updates : {th o w' o' : List ℕ} {p q : Progress} → ((b u : NormalizedEvent) (t : ProviderEvent) (by : Role) → GivenAt w at th b u t by → Does (plan_update r by b u t) w o p q w' o')
      → (t : ProviderEvent) → event_f.Ok t → th ≡ event_f.enc t → Does (plan_head r (Some t)) w o p q w' o'
  unfolding plan
  plan_updates D t k e =
      let x : Pending = entry.entry in
      let b : NormalizedEvent = update_is.0 in
      let u : NormalizedEvent = update_is.1 in
      plan_op r (Some t) entry.entry (Operation.Update update_is.0 update_is.1)
      (record { is = λ s h. sym entry.is.got ∙ (reads_any (λ s. nth 0 (queue r s)) H).is s h }) update_is.2
      (runs.is (plan r entry.entry (Operation.Update update_is.0 update_is.1) (Some t)) (λ m. refl)
      (D update_is.0 update_is.1 t entry.entry.edit.role (given entry.is H.keeps update_is.0 update_is.1 update_is.2 (begins_alone event_f t k e))))

-- ---- a create

created_op : (x : Option Pending) (e : ProviderEvent) → Some e ≡ created x → (p : Pending) × (x ≡ Some p) × (p.edit.operation ≡ Operation.Create e)
unfolding created created_by
created_op None e k = absurd (None-ne-Some e (sym k))
created_op (Some p) e k = (p, refl, go p.edit.operation k)
  where
    go : (o : Operation) → Some e ≡ created_by o → o ≡ Operation.Create e
    go (Operation.Create f) k = ap Operation.Create (sym (Some-injective e f k))
    go (Operation.Update b u) k = absurd (None-ne-Some e (sym k))
    go Operation.Delete k = absurd (None-ne-Some e (sym k))

module _ (r : ResourceId) {w : List ℕ} {place : Option ℕ} (H : HasState w) (F : FindsEntry r 0 w place) where
  pub found_room : {at : ℕ} → place ≡ Some at → at + 5940 ≤ 55643
  found_room f = (entry_found r F f H.state H.keeps).is.room

  pub fields_found : (at : ℕ) → place ≡ Some at → {th : List ℕ} {b : Bool} → ((e t : ProviderEvent) → Begins event_f (operation_part w at) e → Begins event_f th t → b ≡ same fields_f t.fields e.fields)
      → (e t : ProviderEvent) → Reads (λ s. created (nth 0 (queue r s))) w (Some e) → Begins event_f th t → b ≡ same fields_f t.fields e.fields
  fields_found at f D e t R B =
      let E = entry_found r F f H.state H.keeps in
      let k = created_op (Some E.entry) e (R.is H.state H.keeps ∙ ap created E.is.got) in
      let g : E.entry.edit.operation ≡ Operation.Create e = ap (λ (x : Pending). x.edit.operation) (Some-injective E.entry k.0 k.1) ∙ k.2 in
      D e t (event_begins E.is H.keeps e g) B

  pub fields_missing : place ≡ None → {th : List ℕ} {b : Bool} → (e t : ProviderEvent) → Reads (λ s. created (nth 0 (queue r s))) w (Some e) → Begins event_f th t → b ≡ same fields_f t.fields e.fields
  fields_missing f e t R B =
      let k = created_op (nth 0 (queue r H.state)) e (R.is H.state H.keeps) in
      absurd (None-ne-Some k.0 (sym (no_entry r F f H.state H.keeps) ∙ k.1))

module _ (r : ResourceId) {w : List ℕ} (H : HasState w) (C : HeadCase r w (Some Case.Create)) where
  abbrev front : (x : Pending) × (Reads (λ s. nth 0 (queue r s)) w (Some x)) × (Case.Create ≡ case_of x.edit.operation)
  front = head_of r Case.Create H C

  abbrev making : (e : ProviderEvent) × (front.0.edit.operation ≡ Operation.Create e)
  making = create_op front.0.edit.operation front.2

  create_reads : Reads (λ s. created (nth 0 (queue r s))) w (Some making.0)
  unfolding created created_by
  create_reads = record { is = λ s h. ap created_by (sym making.1) ∙ ap created (front.1.is s h) }

  keyed_is : {b : Bool} → Reads (λ s. is_some_and (λ p. creates_under_key p.edit.operation) (nth 0 (queue r s))) w b → b ≡ assigns_ids making.0
  unfolding is_some_and creates_under_key
  keyed_is L = L.is H.state H.keeps ∙ sym (ap (is_some_and (λ p. creates_under_key p.edit.operation)) (front.1.is H.state H.keeps)) ∙ ap creates_under_key making.1

  module _ {b : Bool} (L : Reads (λ s. is_some_and (λ p. creates_under_key p.edit.operation) (nth 0 (queue r s))) w b) (t : ProviderEvent) where
    pub create_remaps : b ≡ true → {o w' o' w₁ o₁ : List ℕ} {p q a : Progress} {to : ResourceId} → to ≡ resource_of t → Does (remap r to) w o p a w₁ o₁ → Does (finish r None) w₁ o₁ a q w' o' → Does (plan_head r (Some t)) w o p q w' o'
    unfolding plan when◌then◌else◌
    create_remaps k e d f =
        let a' : assigns_ids making.0 ≡ true = sym (keyed_is L) ∙ k in
        plan_op r (Some t) front.0 (Operation.Create making.0) front.1 making.1
        (runs.is (plan r front.0 (Operation.Create making.0) (Some t)) (λ m. sym (rw (a', ← e))) (runs.next d f))

    module _ (k : b ≡ false) {v : Bool} (S : (e u : ProviderEvent) → Reads (λ s. created (nth 0 (queue r s))) w (Some e) → Begins event_f (event_f.enc t) u → v ≡ same fields_f u.fields e.fields) (ok-t : event_f.Ok t) where
      same_is : v ≡ same fields_f t.fields making.0.fields
      same_is = S making.0 t create_reads (begins_alone event_f t ok-t refl)

      pub create_same : {o w' o' : List ℕ} {p q : Progress} → v ≡ true → Does (finish r None) w o p q w' o' → Does (plan_head r (Some t)) w o p q w' o'
      unfolding plan when◌then◌else◌
      create_same y d =
          let a' : assigns_ids making.0 ≡ false = sym (keyed_is L) ∙ k in
          let s' : same fields_f t.fields making.0.fields ≡ true = sym same_is ∙ y in
          plan_op r (Some t) front.0 (Operation.Create making.0) front.1 making.1
          (runs.is (plan r front.0 (Operation.Create making.0) (Some t)) (λ m. sym (rw (a', s'))) d)

      pub create_differs : {o w' o' : List ℕ} {p q : Progress} → v ≡ false → Does (finish r (Some Rejection.Exists)) w o p q w' o' → Does (plan_head r (Some t)) w o p q w' o'
      unfolding plan when◌then◌else◌
      create_differs y d =
          let a' : assigns_ids making.0 ≡ false = sym (keyed_is L) ∙ k in
          let s' : same fields_f t.fields making.0.fields ≡ false = sym same_is ∙ y in
          plan_op r (Some t) front.0 (Operation.Create making.0) front.1 making.1
          (runs.is (plan r front.0 (Operation.Create making.0) (Some t)) (λ m. sym (rw (a', s'))) d)

  module _ {b : Bool} (L : Reads (λ s. is_some_and (λ p. p.collided) (nth 0 (queue r s))) w b) where
    collided_is : b ≡ front.0.collided
    unfolding is_some_and
    collided_is = L.is H.state H.keeps ∙ sym (ap (is_some_and (λ p. p.collided)) (front.1.is H.state H.keeps))

    pub create_collides : {o w' o' : List ℕ} {p q : Progress} → b ≡ true → Does (finish r (Some Rejection.Exists)) w o p q w' o' → Does (plan_head r None) w o p q w' o'
    unfolding plan when◌then◌else◌
    create_collides k d =
        let c' : front.0.collided ≡ true = sym collided_is ∙ k in
        plan_op r None front.0 (Operation.Create making.0) front.1 making.1 (runs.is (plan r front.0 (Operation.Create making.0) None) (λ m. sym (rw c')) d)

    pub create_writes : {o w' o' : List ℕ} {p q : Progress} → b ≡ false → ((e : ProviderEvent) → Reads (λ s. created (nth 0 (queue r s))) w (Some e) → Does (request (Purpose.EditWrite r) (Request.Create r e)) w o p q w' o') → Does (plan_head r None) w o p q w' o'
    unfolding plan when◌then◌else◌
    create_writes k D =
        let c' : front.0.collided ≡ false = sym collided_is ∙ k in
        plan_op r None front.0 (Operation.Create making.0) front.1 making.1 (runs.is (plan r front.0 (Operation.Create making.0) None) (λ m. sym (rw c')) (D making.0 create_reads))
