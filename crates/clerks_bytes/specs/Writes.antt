-- What the functions of the two writes promise. Assumes nothing.
use Rattle.std.specs.Prelude.{ℕ, ◌+◌, ◌≡◌, List, ◌++◌, Bool, not, T, length, drop}
use Rattle.model.specs.Event.{ProviderEvent}
use Rattle.model.specs.Sizes.{event_bytes}
use Rattle.model.specs.Formats.{event_f}
use Rattle.merge.specs.Given.{Begins}
use Rattle.clerks_model.specs.Frame as model
use Rattle.clerks_model.specs.Units.{max_units}
use Rattle.clerks_model.specs.Writes.{after_first, accepted}
use Rattle.clerks_model.specs.Forcing.{apart}
use Rattle.clerks_model.specs.Answer.{Placed, line, all_apart, both_accepted}
use Rattle.clerks_bytes.specs.Frames.{Stands, Holds}
use Rattle.clerks_bytes.specs.declared.frames.Party.{Party}
use Rattle.clerks_bytes.specs.declared.frames.Clerks.{Clerks}

-- the longest event, and a byte a unit
abbrev pub line_bytes : ℕ
line_bytes = event_bytes + max_units

-- the longest event
abbrev pub work_bytes : ℕ
work_bytes = event_bytes

-- what a first write is lent: an event and its party, no address twice in either's list, and room for an event
pub record Lent (frame work : List ℕ) (p : Party) (e : ProviderEvent) (x : Placed) : Type 0 where
  pub event : Begins event_f frame e
  pub party : Stands frame p x
  pub apart_event : T (apart e.fields.attendees)
  pub apart_wanted : T (apart x.party.wanted.attendees)
  pub room : length work ≡ work_bytes

-- the event after the first write stands at the front of the work buffer
pub record WritesFirst (frame : List ℕ) (p : Party) (work work' : List ℕ) : Type 0 where
  pub long : length work' ≡ length work
  pub is : (e : ProviderEvent) (x : Placed) → Lent frame work p e x → Begins event_f work' (after_first e x.party)

-- whether a merge of this order has too many attendees
pub record Exceeds (frame : List ℕ) (p q : Party) (work work' : List ℕ) (r : Bool) : Type 0 where
  pub long : length work' ≡ length work
  pub is : (e : ProviderEvent) (x y : Placed) → Lent frame work p e x → Stands frame q y → r ≡ not (accepted e x.party y.party)

-- whether one of either order has
pub record AnyExceeds (frame : List ℕ) (c : Clerks) (work work' : List ℕ) (r : Bool) : Type 0 where
  pub long : length work' ≡ length work
  pub is : (v : model.Clerks) → Holds frame c v → T (all_apart v) → length work ≡ work_bytes → r ≡ not (both_accepted v)

-- bytes at the front of a buffer, the rest of which stays
pub record Front (bytes out out' : List ℕ) (r : ℕ) : Type 0 where
  pub place : r ≡ length bytes
  pub is : out' ≡ bytes ++ drop r out

-- the line of an order stands at the front of its buffer
pub record WritesLine (frame : List ℕ) (c : Clerks) (p q : Party) (out out' work work' : List ℕ) (r : ℕ) : Type 0 where
  pub long : length work' ≡ length work
  pub is : (v : model.Clerks) (x y : Placed) → Holds frame c v → T (all_apart v) → Lent frame work p v.event x → Stands frame q y
      → T (accepted v.event x.party y.party) → length out ≡ line_bytes → Front (line v x y) out out' r
