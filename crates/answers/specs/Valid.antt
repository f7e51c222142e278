-- Outcomes whose events stand in the frame: what an accepted input gives. Assumes nothing.
use Rattle.std.specs.Prelude.{ℕ, List}
use Rattle.model.specs.Seam.{RequestId, ResourceId, Failure}
use Rattle.model.specs.Formats.{outcome_f}
use Rattle.model.specs.Machine.{Machine, Run}
use Rattle.model.specs.Sync.{write_failed}
use Rattle.frame.specs.Meaning.{meant_outcome}
use Rattle.frame.specs.declared.Outcome.{Outcome}

pub record ValidOutcome (frame : List ℕ) (outcome : Outcome) : Type 0 where
  pub ok : outcome_f.Ok (meant_outcome frame outcome)

-- the answer to a write that found nothing
abbrev pub write_not_found : RequestId → ResourceId → Machine → Run
write_not_found id r = write_failed id r Failure.NotFound
