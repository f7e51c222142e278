use Rattle.std.proofs.Common.{◌≡◌, ◌-◌}
use Rattle.waiting.specs.Texts.{texts_end}
use Rattle.waiting.proofs.folding.texts_end.Given as goal

abbrev pub invariant-loop : goal.invariant-loop
invariant-loop l = texts_end l.n l.src l.start ≡ texts_end (l.n - l.counter) l.src l.at
