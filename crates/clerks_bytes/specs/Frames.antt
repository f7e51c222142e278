-- What stands at the places of a frame's parts. Assumes nothing.
use Rattle.std.specs.Prelude.{ℕ, ◌≡◌, List, Bool, true, false, ◌&&◌, eqb, length, drop, Option, Some, None}
use Rattle.format.specs.Format.{whole_of}
use Rattle.model.specs.Formats.{fields_f, event_f, role_f}
use Rattle.frame.specs.declared.Cursor.{Cursor}
use Rattle.merge.specs.Given.{Begins}
use Rattle.clerks_model.specs.Frame.{clerks_f}
use Rattle.clerks_model.specs.Frame as model
use Rattle.clerks_model.specs.Answer.{Placed, party_one, party_two}
use Rattle.clerks_bytes.specs.declared.frames.Party.{Party}
use Rattle.clerks_bytes.specs.declared.frames.Clerks.{Clerks}

-- whether the bytes end at a place
unfoldable pub ends_at : List ℕ → Cursor → Bool
ends_at frame c = c.ok && eqb c.at (length frame)

-- a party's role and wanted event stand at its places
pub record Stands (frame : List ℕ) (p : Party) (x : Placed) : Type 0 where
  pub number : p.number ≡ x.number
  pub role : Begins role_f (drop p.role frame) x.party.role
  pub wanted : Begins fields_f (drop p.wanted frame) x.party.wanted

-- the frame holds two clerks: the event stands at its front
pub record Holds (frame : List ℕ) (c : Clerks) (v : model.Clerks) : Type 0 where
  pub event : Begins event_f frame v.event
  pub one : Stands frame c.one (party_one v)
  pub two : Stands frame c.two (party_two v)

-- what is read of a frame
abbrev pub Read : List ℕ → Clerks → Option model.Clerks → Type 0
Read frame c None = c.ok ≡ false
Read frame c (Some v) = (c.ok ≡ true) × Holds frame c v

abbrev pub Reads : List ℕ → Clerks → Type 0
Reads frame c = Read frame c (whole_of clerks_f frame)
