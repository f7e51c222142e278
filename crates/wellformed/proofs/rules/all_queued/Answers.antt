use Rattle.std.proofs.Common.{rules, tests}
use Rattle.tables.specs.Table.{slots_of}
use Rattle.strides.proofs.Walks.{all_is}
use Rattle.wellformed.specs.Tests.{is_queued}
use Rattle.wellformed.proofs.rules.all_queued.Goals as goal

pub returns : goal.returns
returns c = all_is (is_queued (slots_of 5940 c.args.entries.now)) 43 (λ x l b q k. search (rules, tests)) c.slots.ensures.size c.slots.ensures.gives c.all.ensures.ran
