-- What a merge is lent: the bytes of values that fit, whatever bytes follow them (zeros, where they are padded). Assumes nothing.
use Rattle.std.specs.Prelude.{ℕ, ◌≡◌, List, ◌++◌}
use Rattle.format.specs.Format.{Format}
use Rattle.model.specs.Event.{NormalizedEvent, ProviderEvent}
use Rattle.model.specs.Parts.{Role}
use Rattle.model.specs.Formats.{fields_f, event_f, role_f}

-- the bytes of a value stand at the front of s
pub record Begins {A : Type 0} (f : Format A) (s : List ℕ) (v : A) : Type 0 where
  pub fits : f.Ok v
  pub rest : List ℕ
  pub bytes : s ≡ f.enc v ++ rest

-- the bytes sb, so, st and sr hold base, ours, theirs and the role of who wrote ours
pub record Given (sb so st sr : List ℕ) (b o : NormalizedEvent) (t : ProviderEvent) (r : Role) : Type 0 where
  pub base : Begins fields_f sb b
  pub ours : Begins fields_f so o
  pub theirs : Begins event_f st t
  pub role : Begins role_f sr r
