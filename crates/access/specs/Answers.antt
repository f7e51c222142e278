-- What the reading functions answer, for any bytes: refusal 1 where the length is wrong, else 2 where they are not those of a
-- well-formed state, else what is asked of the state. Assumes nothing.
use Rattle.std.specs.Prelude.{ℕ, zero, suc, ◌≡◌, Bool, true, false, List, [], ◌∷◌, length, eqb, Option, Some, None}
use Rattle.spans.specs.Compare.{order}
use Rattle.tables.specs.Table.{text, is_equal}
use Rattle.model.specs.Event.{ProviderEvent}
use Rattle.model.specs.Seam.{ResourceId}
use Rattle.model.specs.State.{Queue, SyncState, new}
use Rattle.model.specs.Limits.{document01}
use Rattle.model.specs.Maps.{when◌then◌else◌}
use Rattle.model.specs.Machine.{match◌none:◌some:◌}
use Rattle.model.specs.Formats.{event_f}
use Rattle.model.specs.Layout.{state_layout}
use Rattle.model.specs.Entry.{read_state}
use Rattle.state.specs.Contract.{state_length}
use Rattle.wellformed.specs.IsState.{IsState}

-- what a reading function answers: the code, and what is asked of the state, or `missing` where the code is a refusal
unfoldable pub asked : {A : Type 0} → (SyncState → A) → A → List ℕ → ℕ × A
asked f missing bytes =
    when eqb (length bytes) state_length
    then (match read_state document01 bytes none: (2, missing) some: (λ s. (0, f s)))
    else (1, missing)

pub record Answers {A : Type 0} (f : SyncState → A) (missing : A) (bytes : List ℕ) (code : ℕ) (answer : A) : Type 0 where
  pub is : (code, answer) ≡ asked f missing bytes

-- what making a fresh state answers and leaves: 1, and the buffer as it is, where the length is wrong
unfoldable pub freshened : List ℕ → ℕ × List ℕ
freshened bytes = when eqb (length bytes) state_length then (0, (state_layout document01).enc new) else (1, bytes)

pub record Freshened (before after : List ℕ) (code : ℕ) : Type 0 where
  pub is : (code, after) ≡ freshened before

-- the code alone
pub record Checked (b : List ℕ) (code : ℕ) : Type 0 where
  pub short : (length b ≡ state_length → ⊥) → code ≡ 1
  pub other : length b ≡ state_length → (IsState b → ⊥) → code ≡ 2
  pub holds : IsState b → code ≡ 0
  pub is : code ≡ 0 → IsState b

-- the entry at a place in order
unfoldable pub nth : {A : Type 0} → ℕ → List A → Option A
nth i [] = None
nth zero (x ∷ l) = Some x
nth (suc i) (x ∷ l) = nth i l

-- whether there is a number, and the number or 0
unfoldable pub numbered : Option ℕ → Bool × ℕ
numbered None = (false, 0)
numbered (Some n) = (true, n)

-- a record's resource, and its event's bytes in the frame's form
unfoldable pub record_bytes : Option (ResourceId × ProviderEvent) → Option (List ℕ × List ℕ)
record_bytes None = None
record_bytes (Some e) = Some (e.0, event_f.enc e.1)

-- a queue's resource, and how many entries wait in it
unfoldable pub queue_count : Option (ResourceId × Queue) → Option (ResourceId × ℕ)
queue_count None = None
queue_count (Some e) = Some (e.0, length e.1)

-- a slot of a waiting entry of the resource
unfoldable pub is_of : List ℕ → List ℕ → Bool
is_of resource s = is_equal (order (text s) resource)
