use Rattle.phrases.specs.Shown.{Shows}
use Rattle.words.proofs.walk.follow.Given as goal

abbrev pub invariant-loop : goal.invariant-loop
invariant-loop l = Shows l.initial.out l.out l.initial.said l.said
