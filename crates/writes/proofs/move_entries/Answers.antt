use native.Mathlib.Omega.{arith}
use Rattle.writes.proofs.Behind as behind
use Rattle.writes.proofs.move_entries.Goals as goal

pub loop-init : goal.loop-init
loop-init c = behind.sweep_start c.waiting_count-n.ensures c.requires.has_state

pub move_one-j-requires : goal.move_one-j-requires
move_one-j-requires c = record { has_state = behind.sweep_has c.requires.has_state c.loop.invariant; named = (c.requires.named.0, c.requires.named.1, behind.sweep_low c.loop.invariant (let l = c.loop-test.true in omega arith)) }

pub loop-preserved : goal.loop-preserved
loop-preserved c = behind.sweep_next _ _ c.waiting_count-n.result c.loop.counter c.requires.has_state c.loop.invariant c.loop-test.true c.move_one-j.ensures

pub returns : goal.returns
returns c = behind.sweep_end (let l = c.loop-test.false in omega arith) c.loop.invariant
