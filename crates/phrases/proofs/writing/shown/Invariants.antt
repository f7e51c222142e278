use lib.ListN.{length}
use Rattle.phrases.specs.Shown.{Shows}
use Rattle.phrases.proofs.writing.shown.Given as goal

abbrev pub invariant-loop-rest : goal.invariant-loop-rest
invariant-loop-rest l = Shows l.initial.out l.out l.initial.said l.said

abbrev pub decreases-loop-rest : goal.decreases-loop-rest
decreases-loop-rest l = length l.rest
