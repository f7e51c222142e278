-- Which part of a unit's report is written, by the number that the definitions of reports ask for it with. Assumes nothing.
use Rattle.std.specs.Prelude.{ℕ, cond, eqb}
use Rattle.comparison.specs.declared.Which.{Which}
use Rattle.comparison.specs.declared.Which.TheVariants.{Merged, Conflicts, Refused}

abbrev pub number_of : Which → ℕ
number_of Merged = 0
number_of Conflicts = 1
number_of Refused = 2

-- the part that a number asks for
unfoldable pub which_of : ℕ → Which
which_of n = cond (eqb n 0) Merged (cond (eqb n 1) Conflicts Refused)
