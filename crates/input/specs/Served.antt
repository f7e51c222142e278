-- A program that answers lines one after the other, each by what it holds then: what it holds after some lines of some input. Assumes nothing.
use Rattle.std.specs.Prelude.{ℕ, ◌≡◌, List, [], ◌∷◌}
use Rattle.input.specs.Input.{handed_out}

-- what is held after lines: `after_line held line` is what is held after one
unfoldable pub after_lines : (List ℕ → List ℕ → List ℕ) → List ℕ → List (List ℕ) → List ℕ
after_lines after_line held [] = held
after_lines after_line held (line ∷ lines) = after_lines after_line (after_line held line) lines

-- it is what is held after some lines of some input
pub record Served (after_line : List ℕ → List ℕ → List ℕ) (limit : ℕ) (held held' : List ℕ) : Type 0 where
  pub calls : ℕ
  pub chunks : List (List ℕ)
  pub is : held' ≡ after_lines after_line held (handed_out limit calls chunks)
