use native.Mathlib.Omega.{arith}
use mathlib.Core.Path.{ap, ◌∙◌}
use mathlib.Core.List.{List}
use Prim.Native.Nat.{ℕ}
use Rattle.state.specs.declared.Purpose.TheVariants.{Refresh}
use Rattle.flights.proofs.Laws as laws
use Rattle.flights.proofs.purpose_at.Goals as goal

pub returns-in_default : goal.returns-in_default
returns-in_default c = ap (λ (b : List ℕ). Refresh (record { bytes = b })) c.name_at-name.ensures ∙ laws.refresh_from _ _ (omega arith) (omega arith) (omega arith) (omega arith)
