use mir.Facts.{to_z-of_z}
use Rattle.state.specs.Values.{name_of}
use Rattle.machine.proofs.Runs as runs
use Rattle.clock.proofs.Expiring as expiring
use native.Mathlib.Omega.{arith}
use Rattle.clock.proofs.drop_due.Goals as goal

pub loop-j-init : goal.loop-j-init
loop-j-init c = (c.requires.has_state, omega arith, (λ l. omega arith), expiring.kept_start _ _ _ c.waiting_count-total.ensures)

pub drop_if_due-requires-clause-has_state : goal.drop_if_due-requires-clause-has_state
drop_if_due-requires-clause-has_state c = c.loop-j.invariant.0

pub loop-j-preserved : goal.loop-j-preserved
loop-j-preserved c = (runs.edited c.drop_if_due.ensures c.loop-j.invariant.0, (let a = c.loop-j.invariant.1 in omega arith), (λ l. let t = c.loop-j-test.true in omega arith), expiring.kept_turn _ _ _ _ c.waiting_count-total.ensures (let t = c.loop-j-test.true in omega arith) c.loop-j.invariant.1 c.loop-j.invariant.3 c.drop_if_due.ensures)

pub returns : goal.returns
returns c = expiring.kept_at (name_of c.args.name.bytes) c.args.n (to_z-of_z c.ranges.at) (expiring.kept_end _ _ c.args.n _ _ c.waiting_count-total.ensures c.loop-j-test.false c.loop-j.invariant.2 c.loop-j.invariant.3)
