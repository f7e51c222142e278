-- Change request 10/13, of calls of `two_clerks`. A call is known by what its function ensures, and by nothing else. Proved in proofs/Theorems.antt. Assumes nothing.
use Rattle.std.specs.Prelude.{◌≡◌, List, [], ◌∷◌, ◌++◌, take}
use Rattle.model.specs.Event.{ProviderEvent}
use Rattle.model.specs.Parts.{Role}
use Rattle.model.specs.Formats.{Bytes, event_f}
use Rattle.clerks_model.specs.Frame.{Clerks, clerks_f}
use Rattle.clerks_model.specs.Units.{Unit, value, units}
use Rattle.clerks_model.specs.Writes.{after_first, after_both}
use Rattle.clerks_model.specs.Forcing.{FirstCan}
use Rattle.clerks_model.specs.Naming.{Named}
use Rattle.clerks_model.specs.Answer.{Placed, number_of, party_one, party_two}
use Rattle.clerks_model.specs.Claims.{Names}
use Rattle.clerks_bytes.specs.Returned.{asked}
use Rattle.clerks_bytes.specs.declared.Told.{Told}

-- a call: the buffers before and after it, what it answered, and what it ensures
pub record Called : Type 0 where
  pub frame : Bytes
  pub one : Bytes
  pub two : Bytes
  pub work : Bytes
  pub one' : Bytes
  pub two' : Bytes
  pub work' : Bytes
  pub told : Told
  pub is : record { code = told.code; one_length = told.one; two_length = told.two; one = one'; two = two'; work = work' } ≡ asked frame one two work

-- a byte for each unit, and each the number of the party that can force it
pub data NamesEach (e : ProviderEvent) (first second : Placed) : List Unit → Bytes → Type 0 where
  end : NamesEach e first second [] []
  more : (u : Unit) (us : List Unit) (named : Named) (bytes : Bytes) → Names e first.party.role second.party.role u named → NamesEach e first second us bytes
      → NamesEach e first second (u ∷ us) (number_of first second named ∷ bytes)

-- a line is right for an order of the writes
pub record LineRight (c : Clerks) (first second : Placed) (line : Bytes) : Type 0 where
  pub names : Bytes
  -- the final event, then the names
  pub is : line ≡ event_f.enc (after_both c.event first.party second.party) ++ names
  pub named : NamesEach c.event first second (units c) names
  -- an owner whose write lands first can force every unit
  pub owner_forces : first.party.role ≡ Role.Owner → (u : Unit) → FirstCan c.event first.party.role second.party.role u
  -- the second brought in changes only where the first left the base standing
  pub second_only : (u : Unit) → (value u (after_both c.event first.party second.party).fields ≡ value u (after_first c.event first.party).fields → ⊥)
      → value u (after_first c.event first.party).fields ≡ value u c.event.fields

-- the frame holds two clerks, and each buffer starts with the line of its order
pub record Answers (call : Called) : Type 0 where
  pub clerks : Clerks
  pub fits : clerks_f.Ok clerks
  pub frame : call.frame ≡ clerks_f.enc clerks
  pub one : LineRight clerks (party_one clerks) (party_two clerks) (take call.told.one call.one')
  pub two : LineRight clerks (party_two clerks) (party_one clerks) (take call.told.two call.two')

abbrev pub EveryCallNames : Type 0
EveryCallNames = (call : Called) → call.told.code ≡ 0 → Answers call
