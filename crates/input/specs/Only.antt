-- The one line of an input. Assumes nothing.
use Rattle.std.specs.Prelude.{ℕ, ◌≤◌, ◌≡◌, Bool, true, false, List, [], ◌∷◌, ◌++◌, map, length, take, Option, Some, None, IfSome, option_map}
use Rattle.input.specs.Input.{lines_of}
use Rattle.input.specs.declared.chunks.Only.{Only}

-- the line, where there is just one
unfoldable pub only : List (List ℕ) → Option (List ℕ)
only [] = None
only (line ∷ []) = Some line
only (line ∷ more ∷ lines) = None

abbrev pub kept : Bool → List ℕ → Option (List ℕ)
kept true line = Some line
kept false line = None

-- it is the one line of what was left and of what came then, cut where the buffer ends
pub record OnlyRead (left line' : List ℕ) (r : Option ℕ) : Type 0 where
  pub within : IfSome r (λ have. have ≤ length line')
  pub more : List ℕ
  pub is : option_map (λ have. take have line') r ≡ only (map (take (length line')) (lines_of (left ++ more)))

-- the same, where `one` says whether there is just one
pub record OnlyHeld (left line' : List ℕ) (r : Only) : Type 0 where
  pub fits : r.have ≤ length line'
  pub more : List ℕ
  pub is : kept r.one (take r.have line') ≡ only (map (take (length line')) (lines_of (left ++ more)))
