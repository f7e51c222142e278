-- Places in a text of rules: where a step ends. Assumes nothing.
use Rattle.std.specs.Prelude.{ℕ, List, [], ◌∷◌, Bool, cond, ◌||◌, eqb, drop}

-- a byte that ends a step: | / or a line feed
abbrev pub ends_step : ℕ → Bool
ends_step b = eqb b 0x7c || eqb b 0x2f || eqb b 0x0a

-- the step at the front
abbrev pub step_of : List ℕ → List ℕ
step_of [] = []
step_of (b ∷ s) = cond (ends_step b) [] (b ∷ step_of s)

-- the step, or the name, at a place
abbrev pub step_at : List ℕ → ℕ → List ℕ
step_at rules at = step_of (drop at rules)
