-- `on_edit_read` in parts. Assumes nothing.
use Rattle.std.specs.Prelude.{None}
use Rattle.model.specs.Seam.{RequestId, ResourceId, Failure, Outcome}
use Rattle.model.specs.Maps.{when◌then◌else◌, is_some}
use Rattle.model.specs.Machine.{Machine, Run}
use Rattle.model.specs.Sync.{head, looks_up, learn, doubt, observe, read_for_edit, on_edit_read}

unfoldable pub read_or_doubt : ResourceId → Machine → Run
read_or_doubt r m = when is_some (head r m) then read_for_edit r m else doubt r m

unfoldable pub observe_missing : ResourceId → Machine → Run
observe_missing r m = when looks_up r m then learn r m else observe r None m

abbrev pub read_failed : RequestId → ResourceId → Failure → Machine → Run
read_failed id r failure = on_edit_read id r (Outcome.Failed failure)
