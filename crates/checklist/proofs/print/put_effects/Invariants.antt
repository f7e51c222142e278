use Rattle.phrases.specs.Shown.{Shows}
use Rattle.checklist.proofs.print.put_effects.Given as goal

abbrev pub invariant-loop-effect : goal.invariant-loop-effect
invariant-loop-effect l = Shows l.initial.text l.text l.initial.said l.said
