use mir.Facts.{to_z-of_z}
use lib.ListN.{drop}
use Rattle.clock.proofs.Expiring as expiring
use native.Mathlib.Omega.{arith}
use Rattle.clock.proofs.tell_due.Goals as goal

pub loop-j-init : goal.loop-j-init
loop-j-init c = (omega arith, λ l Q. expiring.due_start _ c.args.n l)

pub loop-j-preserved : goal.loop-j-preserved
loop-j-preserved c = ((let a = c.loop-j.invariant.0 in omega arith), λ l Q. expiring.due_turn _ _ c.args.n _ c.requires.has_state c.waiting_count-total.ensures l Q _ c.loop-j.invariant.0 c.loop-j-test.true (c.loop-j.invariant.1 l Q) c.tell_if_due-q.ensures)

pub returns : goal.returns
returns c = λ l Q. expiring.told_at (drop c.args.n l) (to_z-of_z c.ranges.at) (expiring.due_end _ _ c.args.n _ c.requires.has_state c.waiting_count-total.ensures l Q _ c.loop-j.invariant.0 c.loop-j-test.false (c.loop-j.invariant.1 l Q))
