-- The answers to the reads of edits, branch by branch. Assumes nothing.
use Rattle.std.specs.Prelude.{Option, Some, None}
use Prim.Native.Nat.{ℕ}
use mathlib.Core.Path.{◌≡◌, refl, sym, ap, ◌∙◌, subst}
use mathlib.Core.List.{List, [], ◌∷◌}
use mathlib.Core.Bool.{Bool, true, false, not, ◌&&◌, ◌||◌}
use lib.Dec.{ltb}
use lib.ListN.{length}
use Rattle.format.specs.Format.{option, enum, ◌∣◌, via}
use Rattle.model.specs.Event.{ProviderEvent}
use Rattle.model.specs.Seam.{ResourceId, RequestId, Failure, Outcome}
use Rattle.model.specs.Calls.{Rejection}
use Rattle.model.specs.State.{Queue}
use Rattle.model.specs.Maps.{when◌then◌else◌, by_name, get, is_some, is_some_and, first}
use Rattle.model.specs.Formats.{event_f, outcome_f}
use Rattle.model.specs.Machine.{Machine, ok, ◌>>=◌, queue_of}
use Rattle.model.specs.Sync.{creates_under_key, head, looks_up, doubtful, doubt, learn, observe, read_for_edit, finish, finish_queue, describe, ReadAnswer, answer, answer_failed, read_again, edit_read_found, edit_read_answered, on_edit_read}
use Rattle.frame.specs.Read.{Means}
use Rattle.frame.specs.Meaning.{event_at, option_event_at, meant_failure, meant_outcome}
use Rattle.frame.specs.declared.Cursor.{Cursor}
use Rattle.frame.specs.declared.Outcome as outcome
use Rattle.frame.specs.declared.Outcome.TheVariants as outcomes
use Rattle.frame.specs.declared.Failure as failure
use Rattle.frame.specs.declared.Failure.TheVariants as failures
use Rattle.values.specs.Parts.{meant_listed}
use Rattle.values.specs.declared.Listed.{Listed}
use Rattle.values.specs.declared.Listed.TheVariants.{Nothing, Event}
use Rattle.state.specs.Contract.{Keeps, Reads}
use Rattle.waiting.specs.Queues.{queue, nth}
use Rattle.waiting.proofs.Bridge as bridge
use Rattle.machine.specs.declared.Progress.{Progress}
use Rattle.machine.specs.Contract.{Does, Changes}
use Rattle.machine.proofs.Runs as runs
use Rattle.observe.proofs.Parts.{found_is}
use Rattle.writes.specs.Plans.{plan_head}
use Rattle.answers.specs.Valid.{ValidOutcome}
use Rattle.answers.specs.Reads.{read_or_doubt, observe_missing, read_failed}
use Rattle.answers.proofs.Writes.{some_first, none_first}

-- ---- read_or_doubt

module _ (r : ResourceId) {w o w' o' : List ℕ} {p q : Progress} {n : ℕ} (N : Reads (λ s. length (queue r s)) w n) where
  pub again : (n ≡ 0 → ⊥) → Does (read_for_edit r) w o p q w' o' → Does (read_or_doubt r) w o p q w' o'
  unfolding read_or_doubt when◌then◌else◌
  again z d = runs.is_held {f = read_for_edit r} (read_or_doubt r)
      (λ m h. let y : is_some (head r m) ≡ true = ap is_some (bridge.head_is r m) ∙ some_first (queue r m.state) n (N.is m.state h.keeps) z in sym (rw y)) d

  pub doubts : n ≡ 0 → Does (doubt r) w o p q w' o' → Does (read_or_doubt r) w o p q w' o'
  unfolding read_or_doubt when◌then◌else◌
  doubts z d = runs.is_held {f = doubt r} (read_or_doubt r)
      (λ m h. let y : is_some (head r m) ≡ false = ap is_some (bridge.head_is r m) ∙ none_first (queue r m.state) n (N.is m.state h.keeps) z in sym (rw y)) d

-- ---- observe_missing

module _ (r : ResourceId) {w : List ℕ} {b : Bool} (L : Reads (λ s. is_some_and (λ p. creates_under_key p.edit.operation) (nth 0 (queue r s))) w b) where
  looks_is : (m : Machine) → Keeps m.state w → looks_up r m ≡ b
  unfolding looks_up
  looks_is m h = ap (is_some_and (λ p. creates_under_key p.edit.operation)) (bridge.head_is r m) ∙ sym (L.is m.state h)

  pub missing_key : {w' : List ℕ} {p q : Progress} → b ≡ true → Changes (learn r) w p q w' → Changes (observe_missing r) w p q w'
  unfolding observe_missing when◌then◌else◌
  missing_key e C = record { does = λ o. runs.is_held {f = learn r} (observe_missing r) (λ m h. let y : looks_up r m ≡ true = looks_is m h.keeps ∙ e in sym (rw y)) (C.does o) }

  pub missing_gone : {w' : List ℕ} {p q : Progress} → b ≡ false → Changes (observe r None) w p q w' → Changes (observe_missing r) w p q w'
  unfolding observe_missing when◌then◌else◌
  missing_gone e C = record { does = λ o. runs.is_held {f = observe r None} (observe_missing r) (λ m h. let y : looks_up r m ≡ false = looks_is m h.keeps ∙ e in sym (rw y)) (C.does o) }

-- ---- edit_read_found

module _ (id : RequestId) (r : ResourceId) {w : List ℕ} {b : Bool} (D : Reads (λ s. ltb id s.learned_all || is_some_and (λ since. ltb id since) (get by_name r s.learned)) w b) where
  pub overtaken : (theirs : Option ProviderEvent) {o w' o' : List ℕ} {p q : Progress} → b ≡ true → Does (read_or_doubt r) w o p q w' o' → Does (edit_read_found id r theirs) w o p q w' o'
  unfolding edit_read_found doubtful read_or_doubt plan_head
  overtaken theirs e d = runs.is (edit_read_found id r theirs) (λ m. refl)
      (runs.taken (λ m. (when not (is_some theirs) && looks_up r m then learn r m else observe r theirs m) >>= plan_head r theirs) D e d)

  pub found_event : (t : ProviderEvent) {o w₁ o₁ w' o' : List ℕ} {p q u : Progress} → b ≡ false → Does (observe r (Some t)) w o p q w₁ o₁ → Does (plan_head r (Some t)) w₁ o₁ q u w' o' → Does (edit_read_found id r (Some t)) w o p u w' o'
  unfolding edit_read_found doubtful plan_head is_some when◌then◌else◌
  found_event t e d f = runs.is (edit_read_found id r (Some t)) (λ m. refl) (runs.left (λ m. when is_some (head r m) then read_for_edit r m else doubt r m) D e (runs.next d f))

  pub found_none : {o w₁ o₁ w' o' : List ℕ} {p q u : Progress} → b ≡ false → Does (observe_missing r) w o p q w₁ o₁ → Does (plan_head r None) w₁ o₁ q u w' o' → Does (edit_read_found id r None) w o p u w' o'
  unfolding edit_read_found doubtful plan_head observe_missing is_some
  found_none e d f = runs.is (edit_read_found id r None) (λ m. refl) (runs.left (λ m. when is_some (head r m) then read_for_edit r m else doubt r m) D e (runs.next d f))

module _ (id : RequestId) (r : ResourceId) (s : List ℕ) (at : ℕ) {w o w' o' : List ℕ} {p q : Progress} {next : Cursor} {listed : Listed} (M : Means next (meant_listed s listed) (option event_f) s (record { at = at; ok = true })) (k : (option event_f).Ok (option_event_at s at)) where
  pub at_none : listed ≡ Nothing → Does (edit_read_found id r None) w o p q w' o' → Does (edit_read_found id r (option_event_at s at)) w o p q w' o'
  at_none z d = subst (λ (x : Option ProviderEvent). Does (edit_read_found id r x) w o p q w' o') (sym (found_is s at next (meant_listed s listed) M k ∙ ap (meant_listed s) z)) d

  pub at_event : (place : ℕ) → listed ≡ Event place → Does (edit_read_found id r (Some (event_at s place))) w o p q w' o' → Does (edit_read_found id r (option_event_at s at)) w o p q w' o'
  at_event place z d = subst (λ (x : Option ProviderEvent). Does (edit_read_found id r x) w o p q w' o') (sym (found_is s at next (meant_listed s listed) M k ∙ ap (meant_listed s) z)) d

-- ---- on_edit_read

-- where nothing waits, `finish` does nothing
rejecting : (r : ResourceId) (x : Option Rejection) (m : Machine) → finish r x m ≡ (when is_some (head r m) then finish r x m else ok m)
unfolding finish head finish_queue first is_some when◌then◌else◌
rejecting r x m = go (queue_of r m)
  where
    go : (l : Queue) → finish_queue r x l m ≡ (when is_some (first l) then finish_queue r x l m else ok m)
    go [] = refl
    go (y ∷ l) = refl

-- what is told
pub other_outcome : (frame : List ℕ) (x : outcome.Outcome) → ((at : ℕ) → x ≡ outcomes.Read at → ⊥) → ((f : failure.Failure) → x ≡ outcomes.Failed f → ⊥) → answer (meant_outcome frame x) ≡ ReadAnswer.Other
unfolding answer
other_outcome frame (outcomes.Listed at) a b = refl
other_outcome frame (outcomes.Read at) a b = absurd (a at refl)
other_outcome frame (outcomes.Written at) a b = refl
other_outcome frame outcomes.Deleted a b = refl
other_outcome frame (outcomes.Failed f) a b = absurd (b f refl)

pub other_failure : (frame : List ℕ) (x : failure.Failure) → (x ≡ failures.NotFound → ⊥) → (x ≡ failures.Transient → ⊥) → answer_failed (meant_failure frame x) ≡ ReadAnswer.Other
unfolding answer_failed
other_failure frame failures.CursorExpired a b = refl
other_failure frame failures.PreconditionFailed a b = refl
other_failure frame failures.NotFound a b = absurd (a refl)
other_failure frame failures.AlreadyExists a b = refl
other_failure frame failures.Transient a b = absurd (b refl)
other_failure frame (failures.Rejected why) a b = refl

module _ (id : RequestId) (r : ResourceId) {w o w' o' : List ℕ} {p q : Progress} where
  -- an outcome that is none of those that a read may have
  pub other : (x : Outcome) → answer x ≡ ReadAnswer.Other → Does (finish r (Some (Rejection.Provider (describe x)))) w o p q w' o' → Does (on_edit_read id r x) w o p q w' o'
  unfolding on_edit_read edit_read_answered
  other x e d = runs.is (on_edit_read id r x) (λ m. rejecting r (Some (Rejection.Provider (describe x))) m ∙ sym (ap (λ (a : ReadAnswer). edit_read_answered id r x a m) e)) d

  pub other_failed : (x : Failure) → answer_failed x ≡ ReadAnswer.Other → Does (finish r (Some (Rejection.Provider (describe (Outcome.Failed x))))) w o p q w' o' → Does (read_failed id r x) w o p q w' o'
  unfolding answer
  other_failed x e d = other (Outcome.Failed x) e d

  pub failed_gone : Does (edit_read_found id r None) w o p q w' o' → Does (read_failed id r Failure.NotFound) w o p q w' o'
  unfolding on_edit_read edit_read_answered answer answer_failed
  failed_gone d = runs.is (read_failed id r Failure.NotFound) (λ m. refl) d

  pub failed_again : Does (read_again r) w o p q w' o' → Does (read_failed id r Failure.Transient) w o p q w' o'
  unfolding on_edit_read edit_read_answered answer answer_failed read_again
  failed_again d = runs.is (read_failed id r Failure.Transient) (λ m. refl) d

  pub read_found : (frame : List ℕ) (at : ℕ) → Does (edit_read_found id r (option_event_at frame at)) w o p q w' o' → Does (on_edit_read id r (meant_outcome frame (outcomes.Read at))) w o p q w' o'
  unfolding on_edit_read edit_read_answered answer
  read_found frame at d = runs.is (on_edit_read id r (meant_outcome frame (outcomes.Read at))) (λ m. refl) d

  pub outcome_is : (frame : List ℕ) {x : outcome.Outcome} (y : outcome.Outcome) → x ≡ y → Does (on_edit_read id r (meant_outcome frame y)) w o p q w' o' → Does (on_edit_read id r (meant_outcome frame x)) w o p q w' o'
  outcome_is frame y e d = subst (λ (z : outcome.Outcome). Does (on_edit_read id r (meant_outcome frame z)) w o p q w' o') (sym e) d

  pub failure_is : (frame : List ℕ) {x : failure.Failure} (y : failure.Failure) → x ≡ y → Does (read_failed id r (meant_failure frame y)) w o p q w' o' → Does (read_failed id r (meant_failure frame x)) w o p q w' o'
  failure_is frame y e d = subst (λ (z : failure.Failure). Does (read_failed id r (meant_failure frame z)) w o p q w' o') (sym e) d

pub read_ok : (frame : List ℕ) (at : ℕ) {x : outcome.Outcome} → x ≡ outcomes.Read at → ValidOutcome frame x → (option event_f).Ok (option_event_at frame at)
unfolding outcome_f via enum ◌∣◌
read_ok frame at e v = subst (λ (x : outcome.Outcome). outcome_f.Ok (meant_outcome frame x)) e v.ok
