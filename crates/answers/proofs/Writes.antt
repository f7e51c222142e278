-- The answers to the writes of edits, branch by branch. Assumes nothing.
use Rattle.std.specs.Prelude.{Option, Some, None}
use Prim.Native.Nat.{ℕ}
use native.Mathlib.Omega.{arith}
use mathlib.Core.Path.{◌≡◌, refl, sym, ap, ◌∙◌, subst}
use mathlib.Core.List.{List, [], ◌∷◌}
use mathlib.Core.Bool.{Bool, true, false, ◌||◌, false≢true}
use lib.Dec.{ltb}
use lib.ListN.{length}
use Rattle.format.specs.Format.{enum, ◌∣◌, via}
use Rattle.model.specs.Event.{ProviderEvent}
use Rattle.model.specs.Seam.{ResourceId, RequestId, Failure, Outcome, resource_of}
use Rattle.model.specs.Calls.{Rejection}
use Rattle.model.specs.Edits.{Operation}
use Rattle.model.specs.State.{Pending, Queue}
use Rattle.model.specs.Maps.{when◌then◌else◌, by_name, get, is_some, is_some_and}
use Rattle.model.specs.Formats.{event_f, outcome_f}
use Rattle.model.specs.Machine.{Machine, ok, ◌>>=◌, with_state, queue_of}
use Rattle.model.specs.Sync.{is_create, is_delete, as_collided, change_front, change_head, head_is, doubtful, doubt, observe, observe_write, finish, remap, written, deleted, read_for_edit, read_again, write_failed, on_edit_write, describe, describe_failure}
use Rattle.frame.specs.Meaning.{event_at, text_in, meant_failure, meant_outcome}
use Rattle.frame.specs.declared.TextPart.{TextPart}
use Rattle.frame.specs.declared.Outcome as outcome
use Rattle.frame.specs.declared.Failure as failure
use Rattle.frame.specs.declared.Failure.TheVariants as failures
use Rattle.frame.specs.declared.Outcome.TheVariants as outcomes
use Rattle.state.specs.Contract.{Keeps, Reads, Edits}
use Rattle.waiting.specs.Queues.{queue, put_queue, nth}
use Rattle.waiting.specs.Reading.{case_of, operation_case_of}
use Rattle.waiting.specs.declared.readers.OperationCase.{OperationCase}
use Rattle.waiting.specs.declared.readers.OperationCase.TheVariants as case
use Rattle.waiting.proofs.Bridge as bridge
use Rattle.waiting.proofs.Bridge.{set_queue_is}
use Rattle.machine.specs.declared.Progress.{Progress}
use Rattle.machine.specs.Contract.{Does}
use Rattle.machine.proofs.Runs as runs
use Rattle.records.specs.Events.{IsEvent}
use Rattle.answers.specs.Valid.{ValidOutcome}

-- ---- an event of the frame

pub is_event : {b : List ℕ} (e : ProviderEvent) → event_f.Ok e → b ≡ event_f.enc e → IsEvent b
is_event e k q = record { event = e; ok = k; is = q }

pub written_ok : (frame : List ℕ) (at : ℕ) {o : outcome.Outcome} → o ≡ outcomes.Written at → ValidOutcome frame o → event_f.Ok (event_at frame at)
unfolding outcome_f via enum ◌∣◌
written_ok frame at e v = subst (λ (o : outcome.Outcome). outcome_f.Ok (meant_outcome frame o)) e v.ok

-- ---- observe_write

module _ (id : RequestId) (r : ResourceId) (event : Option ProviderEvent) {w o w' o' : List ℕ} {p q : Progress} {b : Bool} (D : Reads (λ s. ltb id s.learned_all || is_some_and (λ since. ltb id since) (get by_name r s.learned)) w b) where
  pub write_doubted : b ≡ true → Does (doubt r) w o p q w' o' → Does (observe_write id r event) w o p q w' o'
  unfolding observe_write doubtful
  write_doubted e d = runs.is (observe_write id r event) (λ m. refl) (runs.taken (observe r event) D e d)

  pub write_observed : b ≡ false → Does (observe r event) w o p q w' o' → Does (observe_write id r event) w o p q w' o'
  unfolding observe_write doubtful
  write_observed e d = runs.is (observe_write id r event) (λ m. refl) (runs.left (doubt r) D e d)

-- ---- the head's operation

abbrev pub creates : OperationCase → Bool
creates case.Create = true
creates case.Update = false
creates case.Delete = false

abbrev pub deletes_it : OperationCase → Bool
deletes_it case.Create = false
deletes_it case.Update = false
deletes_it case.Delete = true

creating : (o : Operation) → creates (case_of o) ≡ is_create o
unfolding is_create
creating (Operation.Create e) = refl
creating (Operation.Update b u) = refl
creating Operation.Delete = refl

deleting : (o : Operation) → deletes_it (case_of o) ≡ is_delete o
unfolding is_delete
deleting (Operation.Create e) = refl
deleting (Operation.Update b u) = refl
deleting Operation.Delete = refl

abbrev pub of_case : (OperationCase → Bool) → Option OperationCase → Bool
of_case g None = false
of_case g (Some k) = g k

abbrev pub HeadIs : (Operation → Bool) → ResourceId → List ℕ → Bool → Type 0
HeadIs f r w b = Reads (λ s. is_some_and (λ e. f e.edit.operation) (nth 0 (queue r s))) w b

module _ (f : Operation → Bool) (g : OperationCase → Bool) (k : (o : Operation) → g (case_of o) ≡ f o) where
  told : (x : Option Pending) (c : Option OperationCase) → c ≡ operation_case_of x → of_case g c ≡ is_some_and (λ e. f e.edit.operation) x
  unfolding is_some_and operation_case_of
  told None c e = ap (of_case g) e
  told (Some p) c e = ap (of_case g) e ∙ k p.edit.operation

  tells : (r : ResourceId) {w : List ℕ} {c d : Option OperationCase} → Reads (λ s. operation_case_of (nth 0 (queue r s))) w c → c ≡ d → HeadIs f r w (of_case g d)
  tells r {w} {c} {d} C e = record { is = λ s h. ap (of_case g) (sym e) ∙ told (nth 0 (queue r s)) c (C.is s h) }

pub tells_create : (r : ResourceId) {w : List ℕ} {c d : Option OperationCase} → Reads (λ s. operation_case_of (nth 0 (queue r s))) w c → c ≡ d → HeadIs is_create r w (of_case creates d)
tells_create r C e = tells is_create creates creating r C e

pub tells_delete : (r : ResourceId) {w : List ℕ} {c d : Option OperationCase} → Reads (λ s. operation_case_of (nth 0 (queue r s))) w c → c ≡ d → HeadIs is_delete r w (of_case deletes_it d)
tells_delete r C e = tells is_delete deletes_it deleting r C e

head_tells : (f : Operation → Bool) (r : ResourceId) {w : List ℕ} {b v : Bool} → HeadIs f r w b → b ≡ v → (m : Machine) → Keeps m.state w → head_is f r m ≡ v
unfolding head_is
head_tells f r C z m h = ap (is_some_and (λ e. f e.edit.operation)) (bridge.head_is r m) ∙ sym (C.is m.state h) ∙ z

-- ---- written, deleted

module _ (id : RequestId) (r : ResourceId) (e : ProviderEvent) {w o w₁ o₁ w₂ o₂ : List ℕ} {p q t : Progress} {b : Bool} (C : HeadIs is_create r w b) where
  pub written_new : b ≡ true → {w₃ o₃ : List ℕ} {u : Progress} {to : ResourceId} → to ≡ resource_of e → Does (observe_write id to (Some e)) w o p q w₁ o₁ → Does (remap r to) w₁ o₁ q t w₂ o₂ → Does (finish r None) w₂ o₂ t u w₃ o₃
      → Does (written id r e) w o p u w₃ o₃
  unfolding written when◌then◌else◌
  written_new z {to = to} k d f g =
      runs.is_held {f = λ m. observe_write id to (Some e) m >>= remap r to >>= finish r None} (written id r e)
      (λ m h. let y : head_is is_create r m ≡ true = head_tells is_create r C z m h.keeps in sym (rw (y, ← k)))
      (runs.next (runs.next d f) g)

  pub written_old : b ≡ false → Does (observe_write id r (Some e)) w o p q w₁ o₁ → Does (finish r None) w₁ o₁ q t w₂ o₂ → Does (written id r e) w o p t w₂ o₂
  unfolding written when◌then◌else◌
  written_old z d g =
      runs.is_held {f = λ m. observe_write id r (Some e) m >>= finish r None} (written id r e)
      (λ m h. let y : head_is is_create r m ≡ false = head_tells is_create r C z m h.keeps in sym (rw y))
      (runs.next d g)

pub deletes : (id : RequestId) (r : ResourceId) {w o w₁ o₁ w₂ o₂ : List ℕ} {p q t : Progress} → Does (observe_write id r None) w o p q w₁ o₁ → Does (finish r None) w₁ o₁ q t w₂ o₂ → Does (deleted id r) w o p t w₂ o₂
unfolding deleted
deletes id r d g = runs.is (deleted id r) (λ m. refl) (runs.next d g)

-- ---- read_again

pub some_first : (x : Queue) (n : ℕ) → n ≡ length x → (n ≡ 0 → ⊥) → is_some (nth 0 x) ≡ true
unfolding is_some nth
some_first [] n e z = absurd (z e)
some_first (y ∷ x) n e z = refl

pub none_first : (x : Queue) (n : ℕ) → n ≡ length x → n ≡ 0 → is_some (nth 0 x) ≡ false
unfolding is_some nth
none_first [] n e z = refl
none_first (y ∷ x) n e z = absurd (omega arith)

module _ (r : ResourceId) {w o w' o' : List ℕ} {p q : Progress} {n : ℕ} (N : Reads (λ s. length (queue r s)) w n) where
  pub reads_again : (n ≡ 0 → ⊥) → Does (read_for_edit r) w o p q w' o' → Does (read_again r) w o p q w' o'
  unfolding read_again when◌then◌else◌
  reads_again z d = runs.is_held {f = read_for_edit r} (read_again r) (λ m h. sym (rw (ap is_some (bridge.head_is r m) ∙ some_first (queue r m.state) n (N.is m.state h.keeps) z))) d

pub reads_nothing : (r : ResourceId) {w o : List ℕ} {p : Progress} {n : ℕ} → Reads (λ s. length (queue r s)) w n → n ≡ 0 → Does (read_again r) w o p p w o
unfolding read_again when◌then◌else◌
reads_nothing r {n = n} N z = runs.is_held {f = ok} (read_again r) (λ m h. sym (rw (ap is_some (bridge.head_is r m) ∙ none_first (queue r m.state) n (N.is m.state h.keeps) z))) runs.nothing

-- ---- write_failed

module _ (id : RequestId) (r : ResourceId) {w o w' o' : List ℕ} {p q : Progress} where
  module _ {b : Bool} (C : HeadIs is_delete r w b) where
    pub gone_deleted : b ≡ true → Does (deleted id r) w o p q w' o' → Does (write_failed id r Failure.NotFound) w o p q w' o'
    unfolding write_failed when◌then◌else◌
    gone_deleted z d = runs.is_held {f = deleted id r} (write_failed id r Failure.NotFound)
        (λ m h. let y : head_is is_delete r m ≡ true = head_tells is_delete r C z m h.keeps in sym (rw y)) d

    pub gone_again : b ≡ false → Does (read_again r) w o p q w' o' → Does (write_failed id r Failure.NotFound) w o p q w' o'
    unfolding write_failed when◌then◌else◌
    gone_again z d = runs.is_held {f = read_again r} (write_failed id r Failure.NotFound)
        (λ m h. let y : head_is is_delete r m ≡ false = head_tells is_delete r C z m h.keeps in sym (rw y)) d

  pub collides : {w₁ : List ℕ} → Edits (λ s. put_queue r (change_front as_collided (queue r s)) s) w w₁ → Does (read_again r) w₁ o p q w' o' → Does (write_failed id r Failure.AlreadyExists) w o p q w' o'
  unfolding write_failed change_head
  collides E d = runs.is (write_failed id r Failure.AlreadyExists)
      (λ m. ap (read_again r) (sym (set_queue_is r (change_front as_collided (queue_of r m)) m ∙ ap (λ (x : Queue). with_state (put_queue r (change_front as_collided x) m.state) m) (bridge.queue_is r m))))
      (runs.edit E d)

-- ---- the failures and the outcomes

-- after which the resource is read again
abbrev pub reads_on : failure.Failure → Bool
reads_on failures.CursorExpired = true
reads_on failures.PreconditionFailed = true
reads_on failures.NotFound = false
reads_on failures.AlreadyExists = false
reads_on failures.Transient = true
reads_on (failures.Rejected why) = false

-- which say nothing of a write
abbrev pub leaves : outcome.Outcome → Bool
leaves (outcomes.Listed at) = true
leaves (outcomes.Read at) = true
leaves (outcomes.Written at) = false
leaves outcomes.Deleted = false
leaves (outcomes.Failed f) = false

module _ (id : RequestId) (r : ResourceId) (frame : List ℕ) {w o w' o' : List ℕ} {p q : Progress} where
  pub failed_as : {x : failure.Failure} (y : failure.Failure) → x ≡ y → Does (write_failed id r (meant_failure frame y)) w o p q w' o' → Does (write_failed id r (meant_failure frame x)) w o p q w' o'
  failed_as y e d = subst (λ (z : failure.Failure). Does (write_failed id r (meant_failure frame z)) w o p q w' o') (sym e) d

  pub again_failed : (x : failure.Failure) → reads_on x ≡ true → Does (read_again r) w o p q w' o' → Does (write_failed id r (meant_failure frame x)) w o p q w' o'
  unfolding write_failed
  again_failed x e d = runs.is (write_failed id r (meant_failure frame x)) (λ m. read_on x e m) d
    where
      read_on : (x : failure.Failure) → reads_on x ≡ true → (m : Machine) → read_again r m ≡ write_failed id r (meant_failure frame x) m
      read_on failures.CursorExpired e m = refl
      read_on failures.PreconditionFailed e m = refl
      read_on failures.NotFound e m = absurd (false≢true e)
      read_on failures.AlreadyExists e m = absurd (false≢true e)
      read_on failures.Transient e m = refl
      read_on (failures.Rejected why) e m = absurd (false≢true e)

  pub rejects : {x : failure.Failure} (why : TextPart) → x ≡ failures.Rejected why → Does (finish r (Some (Rejection.Provider (describe (Outcome.Failed (meant_failure frame x)))))) w o p q w' o' → Does (write_failed id r (meant_failure frame x)) w o p q w' o'
  unfolding write_failed describe describe_failure
  rejects {x} why e d = failed_as (failures.Rejected why) e
      (runs.is (write_failed id r (Failure.Rejected (text_in frame why))) (λ m. refl)
      (subst (λ (y : failure.Failure). Does (finish r (Some (Rejection.Provider (describe (Outcome.Failed (meant_failure frame y)))))) w o p q w' o') e d))

  pub outcome_as : {x : outcome.Outcome} (y : outcome.Outcome) → x ≡ y → Does (on_edit_write id r (meant_outcome frame y)) w o p q w' o' → Does (on_edit_write id r (meant_outcome frame x)) w o p q w' o'
  outcome_as y e d = subst (λ (z : outcome.Outcome). Does (on_edit_write id r (meant_outcome frame z)) w o p q w' o') (sym e) d

  pub unwritten : (x : outcome.Outcome) → leaves x ≡ true → Does (read_again r) w o p q w' o' → Does (on_edit_write id r (meant_outcome frame x)) w o p q w' o'
  unfolding on_edit_write
  unwritten x e d = runs.is (on_edit_write id r (meant_outcome frame x)) (λ m. read_on x e m) d
    where
      read_on : (x : outcome.Outcome) → leaves x ≡ true → (m : Machine) → read_again r m ≡ on_edit_write id r (meant_outcome frame x) m
      read_on (outcomes.Listed at) e m = refl
      read_on (outcomes.Read at) e m = refl
      read_on (outcomes.Written at) e m = absurd (false≢true e)
      read_on outcomes.Deleted e m = absurd (false≢true e)
      read_on (outcomes.Failed f) e m = absurd (false≢true e)

  pub wrote : (at : ℕ) → Does (written id r (event_at frame at)) w o p q w' o' → Does (on_edit_write id r (meant_outcome frame (outcomes.Written at))) w o p q w' o'
  unfolding on_edit_write
  wrote at d = runs.is (on_edit_write id r (meant_outcome frame (outcomes.Written at))) (λ m. refl) d

  pub dropped : Does (deleted id r) w o p q w' o' → Does (on_edit_write id r (meant_outcome frame outcomes.Deleted)) w o p q w' o'
  unfolding on_edit_write
  dropped d = runs.is (on_edit_write id r (meant_outcome frame outcomes.Deleted)) (λ m. refl) d

  pub failed : (f : failure.Failure) → Does (write_failed id r (meant_failure frame f)) w o p q w' o' → Does (on_edit_write id r (meant_outcome frame (outcomes.Failed f))) w o p q w' o'
  unfolding on_edit_write
  failed f d = runs.is (on_edit_write id r (meant_outcome frame (outcomes.Failed f))) (λ m. refl) d
