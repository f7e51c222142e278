use Rattle.strides.proofs.Walks.{gives, runs}
use Rattle.strides.proofs.slots.Goals as goal

pub returns : goal.returns
returns c =
    let g = gives c.args.stride c.from.result c.args.region.now c.chunks_exact.result c.requires c.from.ensures c.chunks_exact.ensures.size c.chunks_exact.ensures.rest in
    record { size = c.chunks_exact.ensures.size; gives = g; runs = runs _ _ g }
