use Rattle.std.proofs.Common.{rules, tests}
use Rattle.strides.proofs.Walks.{all_is}
use Rattle.wellformed.specs.Tests.{is_below}
use Rattle.wellformed.proofs.rules.numbers_below.Goals as goal

pub returns : goal.returns
returns c = all_is (is_below c.args.n) 43 (λ x l b q k. search (rules, tests)) c.slots.ensures.size c.slots.ensures.gives c.all.ensures.ran
