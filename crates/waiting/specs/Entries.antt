-- Where a waiting entry stands in the work buffer, and what stands at its fields' places. Assumes nothing.
use Rattle.std.specs.Prelude.{ℕ, ◌+◌, ◌≤◌, ◌≡◌, List, take, drop, Option, Some, None}
use Rattle.format.specs.Format.{option, list, stamp, bool}
use Rattle.model.specs.Seam.{ResourceId}
use Rattle.model.specs.Parts.{Conflict, Refused}
use Rattle.model.specs.Edits.{Edit, Operation}
use Rattle.model.specs.State.{Pending, SyncState}
use Rattle.model.specs.Limits.{document01}
use Rattle.model.specs.Formats.{short_text, operation_f, role_f, conflicts_f, refusals_f}
use Rattle.state.specs.Layout.{field, pending_slot}
use Rattle.state.specs.Fits.{PendingFits}
use Rattle.state.specs.Contract.{Keeps}
use Rattle.waiting.specs.Queues.{queue, nth}

-- entry j of the queue of r stands at p: its slot's bytes, and its fields', each in its width
pub record EntryAt (r : ResourceId) (j : ℕ) (w : List ℕ) (s : SyncState) (p : ℕ) (entry : Pending) : Type 0 where
  pub got : nth j (queue r s) ≡ Some entry
  pub fits : PendingFits document01 r entry
  pub room : p + 5940 ≤ 55643
  pub slot : take 5940 (drop p w) ≡ pending_slot document01 r entry
  pub id : take 33 (drop (p + 33) w) ≡ field 33 short_text entry.edit.id
  pub operation : take 1469 (drop (p + 66) w) ≡ field 1469 operation_f entry.edit.operation
  pub role : take 34 (drop (p + 1535) w) ≡ field 34 role_f entry.edit.role
  pub expires_at : take 9 (drop (p + 1569) w) ≡ field 9 (option stamp) entry.edit.expires_at
  pub conflicts : take 3072 (drop (p + 1578) w) ≡ field 3072 conflicts_f entry.conflicts
  pub refused : take 1024 (drop (p + 4650) w) ≡ field 1024 refusals_f entry.refused
  pub collided : take 1 (drop (p + 5674) w) ≡ field 1 bool entry.collided
  pub absorbed : take 265 (drop (p + 5675) w) ≡ field 265 (list 8 short_text) entry.absorbed

pub record SomeEntryAt (r : ResourceId) (j : ℕ) (w : List ℕ) (s : SyncState) (p : ℕ) : Type 0 where
  pub entry : Pending
  pub is : EntryAt r j w s p entry

unfoldable pub EntryIs : ResourceId → ℕ → List ℕ → SyncState → Option ℕ → Type 0
EntryIs r j w s (Some p) = SomeEntryAt r j w s p
EntryIs r j w s None = nth j (queue r s) ≡ None

pub record FindsEntry (r : ResourceId) (j : ℕ) (w : List ℕ) (place : Option ℕ) : Type 0 where
  pub is : (s : SyncState) → Keeps s w → EntryIs r j w s place

-- the bytes of a merge's reports
pub record PlanBytes (cs : List Conflict) (rs : List Refused) (conflicts refused : List ℕ) : Type 0 where
  pub conflicts_ok : conflicts_f.Ok cs
  pub conflicts_is : conflicts ≡ conflicts_f.enc cs
  pub refused_ok : refusals_f.Ok rs
  pub refused_is : refused ≡ refusals_f.enc rs

-- the bytes of an edit of r, field by field, each in the frame's form
pub record EditBytes (e : Edit) (r : ResourceId) (id operation role expiry : List ℕ) : Type 0 where
  pub resource : e.resource ≡ r
  pub id_ok : short_text.Ok e.id
  pub id_is : id ≡ short_text.enc e.id
  pub operation_ok : operation_f.Ok e.operation
  pub operation_is : operation ≡ operation_f.enc e.operation
  pub role_ok : role_f.Ok e.role
  pub role_is : role ≡ role_f.enc e.role
  pub expires_ok : (option stamp).Ok e.expires_at
  pub expires_is : expiry ≡ (option stamp).enc e.expires_at

-- what callers show: the bytes are some edit's
pub record IsEdit (r : ResourceId) (id operation role expiry : List ℕ) : Type 0 where
  pub edit : Edit
  pub is : EditBytes edit r id operation role expiry

-- the bytes of what an entry takes from an edit that is folded into it
pub record FoldBytes (o : Operation) (e : Edit) (operation expiry id : List ℕ) : Type 0 where
  pub operation_ok : operation_f.Ok o
  pub operation_is : operation ≡ operation_f.enc o
  pub expires_ok : (option stamp).Ok e.expires_at
  pub expires_is : expiry ≡ (option stamp).enc e.expires_at
  pub id_ok : short_text.Ok e.id
  pub id_is : id ≡ short_text.enc e.id
