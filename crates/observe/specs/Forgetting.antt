-- What is forgotten at the end of a step: `forget_settled` and `forget_aliases` of the state, without the machine around it. Assumes nothing.
use Rattle.std.specs.Prelude.{ℕ, ◌+◌, ◌≡◌, List, [], ◌∷◌, ◌++◌, Bool, true, false, ◌||◌, ◌⊎◌, length, leb, ltb}
use Rattle.model.specs.Seam.{ResourceId, RequestId}
use Rattle.model.specs.State.{Map, SyncState}
use Rattle.model.specs.Maps.{when◌then◌else◌, by_name, any, filter, first, get, keys, values, has, is_some, is_some_and}
use Rattle.model.specs.Machine.{match◌none:◌some:◌}
use Rattle.model.specs.Sync.{asks_about}
use Rattle.state.specs.Setters.{with_learned, with_learned_all, with_aliases}
use Rattle.state.specs.Contract.{Keeps}

-- what was learned after `oldest`
abbrev pub learned_after : RequestId → SyncState → SyncState
learned_after oldest s = with_learned (filter (λ e. ltb oldest e.1) s.learned) s

abbrev pub settled_before : RequestId → SyncState → SyncState
settled_before oldest s = when leb s.learned_all oldest then with_learned_all 0 (learned_after oldest s) else learned_after oldest s

abbrev pub settled : SyncState → SyncState
settled s = match first (keys s.in_flight) none: with_learned_all 0 (with_learned [] s) some: (λ oldest. settled_before oldest s)

-- whether a resource is staged or observed in the open pass
abbrev pub held_in_pass : ResourceId → SyncState → Bool
held_in_pass to s = is_some_and (λ pass. is_some (get by_name to pass.staged) || has to pass.observed) s.pass

-- whether a resource is held anywhere
abbrev pub held_in : ResourceId → SyncState → Bool
held_in to s =
    is_some (get by_name to s.records) || is_some (get by_name to s.edits) || any (asks_about to) (values s.in_flight) || held_in_pass to s

-- only the aliases of what is held
abbrev pub with_held_aliases : SyncState → SyncState
with_held_aliases s = with_aliases (filter (λ e. held_in e.1 s) s.aliases) s

-- alias i is kept, or taken out; r is where the next one stands
pub record Tested (i : ℕ) (w : List ℕ) (r : ℕ) (w' : List ℕ) : Type 0 where
  pub is : (s : SyncState) → Keeps s w → (kept rest : Map ResourceId ResourceId) (e : ResourceId × ResourceId) → s.aliases ≡ kept ++ (e ∷ rest) → length kept ≡ i
      → ((held_in e.1 s ≡ true) × (r ≡ i + 1) × Keeps s w') ⊎ ((held_in e.1 s ≡ false) × (r ≡ i) × Keeps (with_aliases (kept ++ rest) s) w')
