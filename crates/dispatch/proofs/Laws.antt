-- Which function handles which input and which answer. Assumes nothing.
use Rattle.std.specs.Prelude.{Option, Some, None, option_map}
use Prim.Native.Nat.{ℕ}
use mathlib.Core.Path.{◌≡◌, refl, sym, ap, ◌∙◌, subst}
use mathlib.Core.List.{List}
use mathlib.Core.Bool.{Bool, true, false}
use lib.IntN.{ℤ}
use mir.Syntax.{w64}
use mir.Val.{of_z, to_z}
use mir.Facts.{to_z-of_z}
use Rattle.format.specs.Format.{◌⊗◌, via, enum, ◌∣◌, stamp}
use Rattle.format.proofs.FormatLaws.{time_fits}
use Rattle.model.specs.Seam.{RequestId}
use Rattle.model.specs.Seam as seam
use Rattle.model.specs.Calls as calls
use Rattle.model.specs.State.{SyncState, Purpose, with_in_flight}
use Rattle.model.specs.Maps.{by_number, get, remove, is_some}
use Rattle.model.specs.Formats.{input_f, edit_f, outcome_f}
use Rattle.model.specs.Machine.{Machine, Run, ok, match◌none:◌some:◌, with_state, set_in_flight}
use Rattle.model.specs.Sync.{start_pass, enqueue, on_list, on_pass_read, on_edit_read, on_edit_write, on_refresh, try_commit, tick, resume, forget_settled, forget_aliases, on_outcome, known_outcome, handle, apply}
use Rattle.frame.specs.declared.Edit.{Edit}
use Rattle.frame.specs.declared.Outcome.{Outcome}
use Rattle.frame.specs.declared.Input.{Input}
use Rattle.frame.specs.declared.Input.TheVariants.{Sync, Edit as EditI, Outcome as OutcomeI, Tick, Resume}
use Rattle.frame.specs.Meaning.{meant_edit, meant_outcome, meant_input}
use Rattle.names.specs.declared.Name.{Name}
use Rattle.state.specs.declared.Purpose.{Purpose as Asked}
use Rattle.state.specs.declared.Purpose.TheVariants as asked
use Rattle.state.specs.Contract.{Reads, Edits}
use Rattle.state.specs.Values.{name_of, purpose_in, Named, NamedIn}
use Rattle.machine.specs.declared.Progress.{Progress}
use Rattle.machine.specs.Contract.{Does}
use Rattle.machine.proofs.Runs.{next, edit, last_edit, nothing as no_more, reading, taken, left, is}

-- ---- an answer, by the purpose of its request

module _ {w o w' o' : List ℕ} {p q : Progress} (id : RequestId) (outcome : seam.Outcome) (k : Asked) where
  pub listing : k ≡ asked.List → Does (on_list id outcome) w o p q w' o' → Does (on_outcome id (purpose_in k) outcome) w o p q w' o'
  unfolding on_outcome
  listing e d = rw e (is (on_outcome id Purpose.List outcome) (λ m. refl) d)

  pub pass_read : (name : Name) → k ≡ asked.PassRead name → Does (on_pass_read id (name_of name.bytes) outcome) w o p q w' o' → Does (on_outcome id (purpose_in k) outcome) w o p q w' o'
  unfolding on_outcome
  pass_read name e d = rw e (is (on_outcome id (Purpose.PassRead (name_of name.bytes)) outcome) (λ m. refl) d)

  pub edit_read : (name : Name) → k ≡ asked.EditRead name → Does (on_edit_read id (name_of name.bytes) outcome) w o p q w' o' → Does (on_outcome id (purpose_in k) outcome) w o p q w' o'
  unfolding on_outcome
  edit_read name e d = rw e (is (on_outcome id (Purpose.EditRead (name_of name.bytes)) outcome) (λ m. refl) d)

  pub edit_write : (name : Name) → k ≡ asked.EditWrite name → Does (on_edit_write id (name_of name.bytes) outcome) w o p q w' o' → Does (on_outcome id (purpose_in k) outcome) w o p q w' o'
  unfolding on_outcome
  edit_write name e d = rw e (is (on_outcome id (Purpose.EditWrite (name_of name.bytes)) outcome) (λ m. refl) d)

  pub refresh : (name : Name) → k ≡ asked.Refresh name → Does (on_refresh id (name_of name.bytes) outcome) w o p q w' o' → Does (on_outcome id (purpose_in k) outcome) w o p q w' o'
  unfolding on_outcome
  refresh name e d = rw e (is (on_outcome id (Purpose.Refresh (name_of name.bytes)) outcome) (λ m. refl) d)

-- ---- its name is a name

module _ (k : Asked) (named : NamedIn k) where
  pub pass_read_named : (name : Name) → k ≡ asked.PassRead name → Named name.bytes
  pass_read_named name e = rw e at named

  pub edit_read_named : (name : Name) → k ≡ asked.EditRead name → Named name.bytes
  edit_read_named name e = rw e at named

  pub edit_write_named : (name : Name) → k ≡ asked.EditWrite name → Named name.bytes
  edit_write_named name e = rw e at named

  pub refresh_named : (name : Name) → k ≡ asked.Refresh name → Named name.bytes
  refresh_named name e = rw e at named

-- the request is no longer in flight, its answer is handled, and a commit is tried
pub known_is : {w w₁ o w₂ o₂ w₃ o₃ : List ℕ} {p q r : Progress} (id : RequestId) (purpose : Purpose) (outcome : seam.Outcome)
    → Edits (λ s. with_in_flight (remove by_number id s.in_flight) s) w w₁ → Does (on_outcome id purpose outcome) w₁ o p q w₂ o₂ → Does try_commit w₂ o₂ q r w₃ o₃
    → Does (known_outcome id purpose outcome) w o p r w₃ o₃
unfolding known_outcome set_in_flight
known_is id purpose outcome E D C = is (known_outcome id purpose outcome) (λ m. refl) (edit E (next D C))

abbrev by_purpose : RequestId → seam.Outcome → Option Purpose → Machine → Run
by_purpose id outcome v m = match v none: ok m some: (λ purpose. known_outcome id purpose outcome m)

module _ {w o : List ℕ} {p : Progress} (id : RequestId) (outcome : seam.Outcome) (found : Option Asked) (R : Reads (λ s. get by_number id s.in_flight) w (option_map purpose_in found)) where
  -- no such request is in flight
  pub unknown : found ≡ None → Does (handle (calls.Input.Outcome id outcome)) w o p p w o
  unfolding handle match◌none:◌some:◌
  unknown e =
      is (handle (calls.Input.Outcome id outcome)) (λ m. refl)
      (reading (by_purpose id outcome) (subst (λ (x : Option Asked). Reads (λ s. get by_number id s.in_flight) w (option_map purpose_in x)) e R) no_more)

  pub known : {w' o' : List ℕ} {q : Progress} (k : Asked) → found ≡ Some k → Does (known_outcome id (purpose_in k) outcome) w o p q w' o' → Does (handle (calls.Input.Outcome id outcome)) w o p q w' o'
  unfolding handle match◌none:◌some:◌
  known k e d =
      is (handle (calls.Input.Outcome id outcome)) (λ m. refl)
      (reading (by_purpose id outcome) (subst (λ (x : Option Asked). Reads (λ s. get by_number id s.in_flight) w (option_map purpose_in x)) e R) d)

-- ---- a time passes from one function to another as its 64 bits

same_time : (z : ℤ) → stamp.Ok z → to_z w64 (of_z w64 z) ≡ z
unfolding stamp
same_time z h = to_z-of_z (time_fits z h)

-- ---- an input

pub sync_open : {w o : List ℕ} {p : Progress} {v : Bool} → Reads (λ s. is_some s.pass) w v → v ≡ true → Does (handle calls.Input.Sync) w o p p w o
unfolding handle
sync_open R e = is (handle calls.Input.Sync) (λ m. refl) (taken start_pass R e no_more)

pub sync_starts : {w o w' o' : List ℕ} {p q : Progress} {v : Bool} → Reads (λ s. is_some s.pass) w v → v ≡ false → Does start_pass w o p q w' o' → Does (handle calls.Input.Sync) w o p q w' o'
unfolding handle
sync_starts R e d = is (handle calls.Input.Sync) (λ m. refl) (left ok R e d)

module _ {w o w' o' : List ℕ} {p q : Progress} (frame : List ℕ) (i : Input) where
  pub of_sync : i ≡ Sync → Does (handle calls.Input.Sync) w o p q w' o' → Does (handle (meant_input frame i)) w o p q w' o'
  of_sync e d = rw e d

  pub of_edit : (edit : Edit) → i ≡ EditI edit → Does (enqueue (meant_edit frame edit)) w o p q w' o' → Does (handle (meant_input frame i)) w o p q w' o'
  unfolding handle
  of_edit edit e d = rw e (is (handle (calls.Input.Edit (meant_edit frame edit))) (λ m. refl) d)

  pub of_outcome : (id : ℕ) (outcome : Outcome) → i ≡ OutcomeI id outcome → Does (handle (calls.Input.Outcome id (meant_outcome frame outcome))) w o p q w' o' → Does (handle (meant_input frame i)) w o p q w' o'
  of_outcome id outcome e d = rw e d

  pub of_resume : i ≡ Resume → Does resume w o p q w' o' → Does (handle (meant_input frame i)) w o p q w' o'
  unfolding handle
  of_resume e d = rw e (is (handle calls.Input.Resume) (λ m. refl) d)

-- what stands in an input that may stand in a frame
module _ (frame : List ℕ) (i : Input) (valid : input_f.Ok (meant_input frame i)) where
  pub edit_ok : (edit : Edit) → i ≡ EditI edit → edit_f.Ok (meant_edit frame edit)
  unfolding input_f via enum ◌∣◌
  edit_ok edit e = rw e at valid

  pub outcome_ok : (id : ℕ) (outcome : Outcome) → i ≡ OutcomeI id outcome → outcome_f.Ok (meant_outcome frame outcome)
  unfolding input_f via enum ◌∣◌ ◌⊗◌
  outcome_ok id outcome e = let h = rw e at valid in h.1

  time_ok : (time : ℤ) → i ≡ Tick time → stamp.Ok time
  unfolding input_f via enum ◌∣◌
  time_ok time e = rw e at valid

  pub same_time_ok : (time : ℤ) → i ≡ Tick time → stamp.Ok (to_z w64 (of_z w64 time))
  same_time_ok time e = subst stamp.Ok (sym (same_time time (time_ok time e))) (time_ok time e)

  pub of_tick : {w o w' o' : List ℕ} {p q : Progress} (time : ℤ) → i ≡ Tick time → Does (tick (to_z w64 (of_z w64 time))) w o p q w' o' → Does (handle (meant_input frame i)) w o p q w' o'
  unfolding handle
  of_tick {w} {o} {w'} {o'} {p} {q} time e d =
      rw e (is (handle (calls.Input.Tick time)) (λ m. refl) (subst (λ (z : ℤ). Does (tick z) w o p q w' o') (same_time time (time_ok time e)) d))

-- ---- the whole of it

pub applied : {w o w₁ o₁ w₂ w₃ : List ℕ} {p q : Progress} (i : calls.Input) (settled held : SyncState → SyncState)
    → ((m : Machine) → with_state (settled m.state) m ≡ forget_settled m) → ((m : Machine) → with_state (held m.state) m ≡ forget_aliases m)
    → Does (handle i) w o p q w₁ o₁ → Edits settled w₁ w₂ → Edits held w₂ w₃ → Does (apply i) w o p q w₃ o₁
unfolding apply
applied i settled held a b D S H =
    is (apply i) (λ m. refl)
    (next D (is (λ m. ok (forget_aliases (forget_settled m)))
    (λ m. ap ok (b (with_state (settled m.state) m) ∙ ap forget_aliases (a m)))
    (edit S (last_edit H))))
