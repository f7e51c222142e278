use Rattle.std.specs.Prelude.{Option}
use Rattle.std.specs.Int.Signed.{le_z}
use lib.IntN.{ℤ}
use mathlib.Core.Path.{ap, sym, ◌∙◌}
use mir.Syntax.{w64}
use mir.Facts.{to_z-of_z}
use borrow.Author.Rules.{rules}
use Rattle.model.specs.Maps.{is_some_and}
use Rattle.frame.specs.Meaning.{meant_expiry}
use Rattle.queues.proofs.expiry.expired.Goals as goal

pub returns-in-Some : goal.returns-in-Some
unfolding is_some_and
returns-in-Some c = record {
  is = λ s h. c.is_due.ensures ∙ ap (λ (t : ℤ). is_some_and (λ at. le_z at t) (meant_expiry c.args.expiry)) (to_z-of_z {w = w64} {z = c.in-Some.now} (search rules))
      ∙ ap (λ (x : Option ℤ). is_some_and (λ now. is_some_and (λ at. le_z at now) (meant_expiry c.args.expiry)) x) (sym c.in-Some.is ∙ c.now.ensures.is s h);
}

pub returns-in-None : goal.returns-in-None
unfolding is_some_and
returns-in-None c = record {
  is = λ s h. ap (λ (x : Option ℤ). is_some_and (λ now. is_some_and (λ at. le_z at now) (meant_expiry c.args.expiry)) x) (sym c.in-None.is ∙ c.now.ensures.is s h);
}
