-- The staged entries of the open pass: what the code says of one by value, and where its event stands. Assumes nothing.
use Rattle.std.specs.Prelude.{ℕ, ◌+◌, ◌≤◌, ◌≡◌, List, [], Bool, true, length, take, drop, get_or, leb}
use Rattle.model.specs.Event.{Text, ProviderEvent}
use Rattle.model.specs.Seam.{ResourceId}
use Rattle.model.specs.State.{Map, Staged, SyncState}
use Rattle.model.specs.Maps.{by_name, insert, remove}
use Rattle.model.specs.Machine.{match◌none:◌some:◌, with_staged}
use Rattle.model.specs.Formats.{event_f}
use Rattle.state.specs.Layout.{field, pass_of}
use Rattle.state.specs.Setters.{pass_changed}
use Rattle.state.specs.Contract.{state_length, Keeps}
use Rattle.staged.specs.declared.Staged.{Staged as Answer}
use Rattle.staged.specs.declared.Staged.TheVariants as answer

-- the staged entries: none where no pass is open
abbrev pub staged_of : SyncState → Map ResourceId Staged
staged_of s = (pass_of s.pass).staged

-- whether the entries are within their limit once v is staged: true where no pass is open
abbrev pub may_stage : Text → Staged → SyncState → Bool
may_stage name v s = match s.pass none: true some: (λ p. leb (length (insert by_name name v p.staged)) 10)

-- v staged in the open pass
abbrev pub with_stage : Text → Staged → SyncState → SyncState
with_stage name v = pass_changed (λ p. with_staged (insert by_name name v p.staged) p)

-- what is staged under a name is taken out
abbrev pub without_stage : Text → SyncState → SyncState
without_stage name = pass_changed (λ p. with_staged (remove by_name name p.staged) p)

-- entry i
abbrev pub staged_at : ℕ → SyncState → ResourceId × Staged
staged_at i s = get_or (staged_of s) i ([], Staged.Unread)

-- what an answer of `entry` says of an entry: if it is an event, that stands, zero padded, in the 882 bytes at p
abbrev pub Meant : List ℕ → Answer → Staged → Type 0
Meant w (answer.Present p) v = (e : ProviderEvent) × (v ≡ Staged.Present e) × (event_f.Ok e) × (take 882 (drop p w) ≡ field 882 event_f e)
Meant w answer.Unread v = v ≡ Staged.Unread
Meant w answer.Removed v = v ≡ Staged.Removed

-- those bytes are in the state's
abbrev pub Inside : Answer → Type 0
Inside (answer.Present p) = p + 882 ≤ state_length
Inside answer.Unread = Unit {0}
Inside answer.Removed = Unit {0}

-- what is staged as entry i
pub record StagedAt (i : ℕ) (w : List ℕ) (r : Answer) : Type 0 where
  pub is : (s : SyncState) → Keeps s w → Meant w r (staged_at i s).1
  pub room : Inside r
