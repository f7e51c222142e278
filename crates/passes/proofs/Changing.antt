-- Sequencing of functions that are lent the work buffer alone, and the open pass changed. Assumes nothing.
use Rattle.std.specs.Prelude.{Option, Some, None}
use Prim.Native.Nat.{ℕ}
use mathlib.Core.Path.{◌≡◌, refl}
use mathlib.Core.List.{List}
use mathlib.Core.Bool.{Bool, true, false}
use Rattle.model.specs.State.{Pass, SyncState}
use Rattle.model.specs.Maps.{when◌then◌else◌}
use Rattle.model.specs.Machine.{Machine, Run, ok, ◌>>=◌, match◌none:◌some:◌, with_state, change_pass, set_pass}
use Rattle.state.specs.Setters.{with_pass, pass_changed}
use Rattle.state.specs.Contract.{Reads, Edits}
use Rattle.machine.specs.declared.Progress.{Progress}
use Rattle.machine.specs.Contract.{Changes}
use Rattle.machine.proofs.Runs as runs

pub and_then : {f g : Machine → Run} {w w₁ w₂ : List ℕ} {p q r : Progress} → Changes f w p q w₁ → Changes g w₁ q r w₂ → Changes (λ m. f m >>= g) w p r w₂
and_then C D = record { does = λ o. runs.next (C.does o) (D.does o) }

pub after_edit : {f : SyncState → SyncState} {g : Machine → Run} {w w₁ w₂ : List ℕ} {p q : Progress} → Edits f w w₁ → Changes g w₁ p q w₂ → Changes (λ m. g (with_state (f m.state) m)) w p q w₂
after_edit E C = record { does = λ o. runs.edit E (C.does o) }

pub edits : {f : SyncState → SyncState} {w w₁ : List ℕ} {p : Progress} → Edits f w w₁ → Changes (λ m. ok (with_state (f m.state) m)) w p p w₁
edits E = record { does = λ o. runs.last_edit E }

pub no_change : {w : List ℕ} {p : Progress} → Changes ok w p p w
no_change = record { does = λ o. runs.nothing }

pub on_reading : {A : Type 0} {f : SyncState → A} (g : A → Machine → Run) {v : A} {w w' : List ℕ} {p q : Progress} → Reads f w v → Changes (g v) w p q w' → Changes (λ m. g (f m.state) m) w p q w'
on_reading g R C = record { does = λ o. runs.reading g R (C.does o) }

pub if_true : {b : SyncState → Bool} {f : Machine → Run} (g : Machine → Run) {v : Bool} {w w' : List ℕ} {p q : Progress} → Reads b w v → v ≡ true → Changes f w p q w' → Changes (λ m. when b m.state then f m else g m) w p q w'
if_true g R e C = record { does = λ o. runs.taken g R e (C.does o) }

pub if_false : {b : SyncState → Bool} (f : Machine → Run) {g : Machine → Run} {v : Bool} {w w' : List ℕ} {p q : Progress} → Reads b w v → v ≡ false → Changes g w p q w' → Changes (λ m. when b m.state then f m else g m) w p q w'
if_false f R e C = record { does = λ o. runs.left f R e (C.does o) }

pub same_run : {f : Machine → Run} (g : Machine → Run) {w w' : List ℕ} {p q : Progress} → ((m : Machine) → f m ≡ g m) → Changes f w p q w' → Changes g w p q w'
same_run g e C = record { does = λ o. runs.is g e (C.does o) }

-- the open pass changed, as an edit of the state
pub change_pass_is : (f : Pass → Pass) (m : Machine) → with_state (pass_changed f m.state) m ≡ change_pass f m
unfolding change_pass pass_changed match◌none:◌some:◌ set_pass
change_pass_is f m = go m.state.pass
  where
    go : (o : Option Pass) → with_state (match o none: m.state some: (λ pass. with_pass (Some (f pass)) m.state)) m ≡ (match o none: m some: (λ pass. set_pass (Some (f pass)) m))
    go None = refl
    go (Some p) = refl
