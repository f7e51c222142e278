-- What a walk over a table's slots gives. Assumes nothing.
use Rattle.std.specs.Prelude.{ℕ, List, [], ◌∷◌, Bool, true}
use Rattle.std.specs.Iterator.{AlwaysYields}
use Rattle.std.specs.Iterator.Runs.{EachRunFrom, ItemsMapTo}
use Rattle.std.specs.Slice.Iter.{chunks_exact_steps}
use Rattle.std.specs.declared.slice.ChunksExact.{ChunksExact}
use Rattle.spans.specs.Bytes.{both}
use Rattle.tables.specs.Table.{Table}

-- these slots, in order, and no more
pub record Gives (s : ChunksExact ℕ) (t : Table) : Type 0 where
  pub always : AlwaysYields chunks_exact_steps (λ slot. slot.now) s t

-- the same in the words that chains of iterators are proved by
abbrev pub Runs : ChunksExact ℕ → Table → Type 0
Runs s t = EachRunFrom chunks_exact_steps s (λ run. ItemsMapTo run (λ slot. slot.now) t)

-- whether each slot and the next pass a test
unfoldable pub neighbours_from : (List ℕ → List ℕ → Bool) → List ℕ → Table → Bool
neighbours_from h s [] = true
neighbours_from h s (u ∷ t) = both (h s u) (neighbours_from h u t)

unfoldable pub neighbours : (List ℕ → List ℕ → Bool) → Table → Bool
neighbours h [] = true
neighbours h (s ∷ t) = neighbours_from h s t
