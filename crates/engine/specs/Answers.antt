-- What a call is lent, answers and leaves, in the words of the model's `entry`. Assumes nothing.
use Rattle.std.specs.Prelude.{ℕ, ◌≡◌, List, [], take}
use Rattle.model.specs.State.{SyncState}
use Rattle.model.specs.Calls.{Input}
use Rattle.model.specs.Limits.{document01}
use Rattle.model.specs.Sync.{step}
use Rattle.model.specs.Entry.{Lent, leaves, answered}
use Rattle.model.specs.Entry as model
use Rattle.state.specs.Contract.{Keeps}
use Rattle.machine.specs.declared.Progress.{Progress}
use Rattle.engine.specs.declared.Answer.{Answer}

-- the three lent buffers
abbrev pub lent : List ℕ → List ℕ → List ℕ → Lent
lent state work out = record { state = state; work = work; out = out }

-- the answer beside the buffers as the call leaves them
abbrev pub returned : Answer → List ℕ → List ℕ → List ℕ → model.Returned
returned r state work out = record { code = r.code; length = r.length; lent = lent state work out }

-- how a step ends that came so far: refused, the state stays; else the work buffer is the state, and the output holds the effects
pub record Ends (p : Progress) (s w o : List ℕ) (r : Answer) (s' w' o' : List ℕ) : Type 0 where
  pub refused : (p.code ≡ 0 → ⊥) → returned r s' w' o' ≡ leaves p.code s [] (lent s w o)
  pub accepted : p.code ≡ 0 → returned r s' w' o' ≡ leaves 0 w (take p.at o) (lent s w o)

-- a step on the state that the buffer holds
pub record Steps (i : Input) (s w o : List ℕ) (r : Answer) (s' w' o' : List ℕ) : Type 0 where
  pub is : (state : SyncState) → Keeps state s → returned r s' w' o' ≡ answered document01 (lent s w o) (step document01 state i)

-- a step that has done nothing yet
abbrev pub fresh : Progress
fresh = record { code = 0; at = 0 }

-- the part of the output that is lent for the effects
abbrev pub room : List ℕ → List ℕ
room o = take 32768 o
