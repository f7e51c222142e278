-- The shape of every contract of the state machine: what the work buffer and the output hold while a step runs, and what a function does
-- to them. A function is handed how far the step has come, and hands back how far it came. Once a step is refused it stays refused,
-- and the functions that are still called do nothing that counts. Assumes nothing.
use Rattle.std.specs.Prelude.{ℕ, ◌≡◌, List}
use Rattle.model.specs.Calls.{Effect}
use Rattle.model.specs.Limits.{document01}
use Rattle.model.specs.Machine.{Machine, Run, refused, ok, push}
use Rattle.state.specs.Contract.{Keeps, HasState}
use Rattle.effects.specs.Sent.{Sent}
use Rattle.machine.specs.declared.Progress.{Progress}

-- the work buffer w and the output o hold the machine m, and the next effect goes to `at`
pub record Holds (m : Machine) (w o : List ℕ) (at : ℕ) : Type 0 where
  pub limits : m.limits ≡ document01
  pub keeps : Keeps m.state w
  pub sent : Sent m.out o at

-- how far the step came, after a run of the definitions
unfoldable pub Ran : Run → Progress → List ℕ → List ℕ → Type 0
Ran (refused n) p w o = (p.code ≡ n) × (n ≡ 0 → ⊥)
Ran (ok m) p w o = (p.code ≡ 0) × Holds m w o p.at

-- a function does f: to whatever machine the buffers hold, unless the step is refused already. It leaves a state in the work buffer,
-- and the output as long as it was.
pub record Does (f : Machine → Run) (w o : List ℕ) (p q : Progress) (w' o' : List ℕ) : Type 0 where
  pub run : p.code ≡ 0 → (m : Machine) → Holds m w o p.at → Ran (f m) q w' o'
  pub stays : (p.code ≡ 0 → ⊥) → q.code ≡ p.code
  pub state : HasState w → HasState w'

-- the same, of a function that is lent the work buffer alone
pub record Changes (f : Machine → Run) (w : List ℕ) (p q : Progress) (w' : List ℕ) : Type 0 where
  pub does : (o : List ℕ) → Does f w o p q w' o

-- the same, of a function that is lent the output alone: it sends an effect
pub record Pushes (effect : Effect) (o : List ℕ) (p q : Progress) (o' : List ℕ) : Type 0 where
  pub does : (w : List ℕ) → Does (push effect) w o p q w o'
