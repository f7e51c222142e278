use Rattle.phrases.specs.Shown.{Shows}
use Rattle.phrases.proofs.saying.say.Given as goal

abbrev pub invariant-loop-b : goal.invariant-loop-b
invariant-loop-b l = Shows l.initial.out l.out l.initial.said l.said
