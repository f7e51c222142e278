-- The bytes of a well-formed state. Assumes nothing.
use Rattle.std.specs.Prelude.{ℕ, ◌≡◌, List}
use Rattle.model.specs.State.{SyncState}
use Rattle.model.specs.Limits.{document01}
use Rattle.model.specs.WellFormed.{WellFormed}
use Rattle.state.specs.Layout.{layout}

pub record IsState (b : List ℕ) : Type 0 where
  pub state : SyncState
  pub well : WellFormed document01 state
  pub bytes : b ≡ layout document01 state
