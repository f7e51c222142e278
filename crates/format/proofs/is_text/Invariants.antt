use Rattle.std.proofs.Common.{◌≡◌, drop}
use Rattle.format.specs.Utf8.{is_text, chars}
use Rattle.format.proofs.is_text.Given as goal

abbrev pub invariant-loop-b : goal.invariant-loop-b
invariant-loop-b l = is_text l.s ≡ chars l.wanted (drop l.b-index l.s)
