use Rattle.std.proofs.Common.{rules, tests}
use Rattle.strides.proofs.Walks.{sorted_is}
use Rattle.wellformed.specs.Entries.{in_order}
use Rattle.wellformed.proofs.table.keys_ordered.Goals as goal

pub returns : goal.returns
returns c = sorted_is _ c.args.stride _ in_order (λ x y l m b q k. search (rules, tests)) c.slots.ensures.size c.slots.ensures.gives c.is_sorted_by.ensures.ran
