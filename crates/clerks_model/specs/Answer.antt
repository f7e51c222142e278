-- What the tool answers to a frame: a refusal's number, or a line of bytes for each order of the writes. Assumes nothing.
use Rattle.std.specs.Prelude.{ℕ, ◌++◌, Bool, not, ◌&&◌, Option, Some, None}
use Rattle.format.specs.Format.{whole_of}
use Rattle.model.specs.Maps.{when◌then◌else◌, map}
use Rattle.model.specs.Formats.{Bytes, event_f}
use Rattle.clerks_model.specs.Frame.{Party, Clerks, clerks_f}
use Rattle.clerks_model.specs.Units.{units}
use Rattle.clerks_model.specs.Writes.{after_both, accepted}
use Rattle.clerks_model.specs.Forcing.{apart}
use Rattle.clerks_model.specs.Naming.{Named, named}

-- a party and its place in the frame, 1 or 2
pub record Placed : Type 0 where
  pub number : ℕ
  pub party : Party

-- the number of the party named, 0 for none: by its place in the frame and not by the order of the writes
unfoldable pub number_of : (first second : Placed) → Named → ℕ
number_of first second Named.Nobody = 0
number_of first second Named.First = first.number
number_of first second Named.Second = second.number

-- a byte for each unit
unfoldable pub names : Clerks → (first second : Placed) → Bytes
names c p q = map (λ u. number_of p q (named p.party.role q.party.role c.event.fields u)) (units c)

-- the final event, then the names
unfoldable pub line : Clerks → (first second : Placed) → Bytes
line c p q = event_f.enc (after_both c.event p.party q.party) ++ names c p q

abbrev pub party_one : Clerks → Placed
party_one c = record { number = 1; party = c.one }

abbrev pub party_two : Clerks → Placed
party_two c = record { number = 2; party = c.two }

pub data Answer : Type 0 where
  Refused : ℕ → Answer
  Lines : (one-first two-first : Bytes) → Answer

-- the refusals: not exactly that frame, a folded address twice in one list, and a merge with too many attendees
abbrev pub no_frame : ℕ
no_frame = 3

abbrev pub address_twice : ℕ
address_twice = 10

abbrev pub too_many : ℕ
too_many = 6

unfoldable pub all_apart : Clerks → Bool
all_apart c = apart c.event.fields.attendees && apart c.one.wanted.attendees && apart c.two.wanted.attendees

unfoldable pub both_accepted : Clerks → Bool
both_accepted c = accepted c.event c.one c.two && accepted c.event c.two c.one

unfoldable pub judged : Clerks → Answer
judged c =
    when not (all_apart c) then Answer.Refused address_twice
    else (when not (both_accepted c) then Answer.Refused too_many
    else Answer.Lines (line c (party_one c) (party_two c)) (line c (party_two c) (party_one c)))

unfoldable pub answered : Option Clerks → Answer
answered None = Answer.Refused no_frame
answered (Some c) = judged c

unfoldable pub two_clerks : Bytes → Answer
two_clerks frame = answered (whole_of clerks_f frame)
