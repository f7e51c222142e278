-- The version of an event: its revision and its mapper version, read where the event stands. Assumes nothing.
use Rattle.std.specs.Prelude.{ℕ, ◌≤◌, ◌≡◌, List, ◌++◌, length, drop}
use Rattle.format.specs.Format.{option}
use Rattle.model.specs.Event.{ProviderEvent}
use Rattle.model.specs.Formats.{short_text, u32, event_f}
use Rattle.state.specs.Layout.{field}

-- an event's bytes stand at a place
pub record Stands (e : ProviderEvent) (b : List ℕ) (at : ℕ) : Type 0 where
  pub ok : event_f.Ok e
  pub rest : List ℕ
  pub is : drop at b ≡ event_f.enc e ++ rest

-- some event's do
pub record HasEvent (b : List ℕ) (at : ℕ) : Type 0 where
  pub event : ProviderEvent
  pub stands : Stands event b at

-- the revision in 34 bytes, zero padded, and the mapper version are the event's
pub record VersionOf (e : ProviderEvent) (revision : List ℕ) (mapper : ℕ) : Type 0 where
  pub revision_is : revision ≡ field 34 (option short_text) e.revision
  pub mapper_is : mapper ≡ e.mapper_version

-- its revision stands at a place, its mapper version behind it, and bytes behind that
pub record RevisionAt (e : ProviderEvent) (b : List ℕ) (p : ℕ) : Type 0 where
  pub rest : List ℕ
  pub is : drop p b ≡ (option short_text).enc e.revision ++ (u32.enc e.mapper_version ++ rest)
  pub some : 8 ≤ length rest
