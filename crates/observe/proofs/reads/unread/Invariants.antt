use Rattle.observe.proofs.reads.unread.Given as goal
use Rattle.observe.specs.Reading.{Noted}

abbrev pub invariant-loop-i : goal.invariant-loop-i
invariant-loop-i l = Noted l.i l.work l.list
