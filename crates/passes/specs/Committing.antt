-- The parts of `try_commit` that the code has as functions of their own, each for the pass that is open. Assumes nothing.
use Rattle.std.specs.Prelude.{ℕ, Bool, not, ◌&&◌}
use Rattle.model.specs.State.{Staged, SyncState}
use Rattle.model.specs.Maps.{when◌then◌else◌, any, is_empty, is_some, values}
use Rattle.model.specs.Machine.{Machine, Run, for_each, stage}
use Rattle.model.specs.Sync.{is_unread, apply_staged, apply_pass, read_observed}
use Rattle.state.specs.Layout.{pass_of}
use Rattle.records.specs.Retaining.{with_seen_records}
use Rattle.staged.specs.Staging as staging

-- entry i
unfoldable pub apply_at : ℕ → Machine → Run
apply_at i m = apply_staged (staging.staged_at i m.state) m

-- all entries
unfoldable pub apply_all : Machine → Run
apply_all m = for_each apply_staged (staging.staged_of m.state) m

-- of a full pass, only the records that it has seen
unfoldable pub seen_kept : SyncState → SyncState
seen_kept s = when (pass_of s.pass).full then with_seen_records s else s

unfoldable pub apply_open : Machine → Run
apply_open m = apply_pass (pass_of m.state.pass) m

-- what was observed is to be read
unfoldable pub stage_all : Machine → Run
stage_all m = for_each (λ resource. stage resource Staged.Unread) (pass_of m.state.pass).observed m

unfoldable pub read_open : Machine → Run
read_open m = read_observed (pass_of m.state.pass) m

unfoldable pub is_ready : SyncState → Bool
is_ready s = is_some (pass_of s.pass).done && not (any is_unread (values (staging.staged_of s)))

unfoldable pub commit_open : Machine → Run
commit_open m = when is_empty (pass_of m.state.pass).observed then apply_open m else read_open m
