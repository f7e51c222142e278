-- The records that a full pass has seen, kept one record at a time. Assumes nothing.
use Rattle.std.specs.Prelude.{ℕ, ◌+◌, ◌≡◌, List, ◌∷◌, ◌++◌, Bool, true, false, ◌⊎◌, length}
use Rattle.model.specs.Event.{ProviderEvent}
use Rattle.model.specs.Seam.{ResourceId}
use Rattle.model.specs.State.{Map, SyncState}
use Rattle.model.specs.Maps.{filter, has}
use Rattle.state.specs.Layout.{pass_of}
use Rattle.state.specs.Setters.{with_records}
use Rattle.state.specs.Contract.{Keeps}

-- whether the open pass has seen a record's name
abbrev pub seen_in : SyncState → ResourceId × ProviderEvent → Bool
seen_in s e = has e.0 (pass_of s.pass).seen

-- only the records that it has seen
abbrev pub with_seen_records : SyncState → SyncState
with_seen_records s = with_records (filter (seen_in s) s.records) s

-- record i is kept, or taken out; r is where the next one stands
pub record Tested (i : ℕ) (w : List ℕ) (r : ℕ) (w' : List ℕ) : Type 0 where
  pub is : (s : SyncState) → Keeps s w → (kept rest : Map ResourceId ProviderEvent) (e : ResourceId × ProviderEvent) → s.records ≡ kept ++ (e ∷ rest) → length kept ≡ i
      → ((seen_in s e ≡ true) × (r ≡ i + 1) × Keeps s w') ⊎ ((seen_in s e ≡ false) × (r ≡ i) × Keeps (with_records (kept ++ rest) s) w')
