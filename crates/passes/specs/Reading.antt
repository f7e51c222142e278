-- The parts of sync.rs's reading side that the code has as functions of their own. Assumes nothing.
use Rattle.std.specs.Prelude.{Option}
use Rattle.model.specs.Event.{ProviderRevision, ProviderEvent}
use Rattle.model.specs.Seam.{RequestId, ResourceId, Request, Failure, Outcome}
use Rattle.model.specs.State.{Purpose}
use Rattle.model.specs.Maps.{when◌then◌else◌}
use Rattle.model.specs.Machine.{Machine, Run, ok, request, stage, unstage}
use Rattle.model.specs.Sync.{holds, staged_of, list_failed, list_answered}
use Rattle.state.specs.Layout.{pass_of}

-- the last lines of a change that is not doubtful
unfoldable pub list_found : ResourceId → ProviderRevision → Option ProviderEvent → Machine → Run
list_found resource revision event m =
    when holds resource revision m then ok (unstage resource m) else stage resource (staged_of event) m

-- a request for the page that the open pass is to go on from
unfoldable pub request_from : Machine → Run
request_from m = request Purpose.List (Request.List (pass_of m.state.pass).from) m

-- the answer to a listing, for the pass that is open

unfoldable pub failed_in_pass : Failure → Machine → Run
failed_in_pass failure m = list_failed failure (pass_of m.state.pass) m

unfoldable pub answered_in_pass : RequestId → Outcome → Machine → Run
answered_in_pass id outcome m = list_answered id outcome (pass_of m.state.pass) m
