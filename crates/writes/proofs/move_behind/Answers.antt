use Rattle.writes.proofs.Behind as behind
use Rattle.machine.proofs.Runs as runs
use Rattle.writes.proofs.move_behind.Goals as goal

pub start_edit-requires : goal.start_edit-requires
start_edit-requires c = record { has_state = runs.edited c.move_entries.ensures c.requires.has_state; named = c.requires.named.1 }

pub returns-then-waiting-eq0 : goal.returns-then-waiting-eq0
returns-then-waiting-eq0 c = behind.behind_starts _ _ c.requires.named.2 c.waiting_count-waiting.ensures c.move_entries.ensures c.if-waiting-eq0.true c.start_edit.ensures

pub returns : goal.returns
returns c = behind.behind_waits _ _ c.requires.named.2 c.waiting_count-waiting.ensures c.move_entries.ensures c.if-waiting-eq0.false
