-- Two of the model's inputs under names that the code's own do not hide. Assumes nothing.
use Rattle.model.specs.Seam.{RequestId, Outcome}
use Rattle.model.specs.Calls.{Input}

abbrev pub syncs : Input
syncs = Input.Sync

abbrev pub answers : RequestId → Outcome → Input
answers id outcome = Input.Outcome id outcome
