use mathlib.Core.Path.{refl}
use Rattle.state.proofs.Ops as ops
use Rattle.waiting.proofs.Splices as splices
use native.Mathlib.Omega.{arith}
use Rattle.waiting.proofs.finding.entries_before.Goals as goal

pub tally_in-requires : goal.tally_in-requires
tally_in-requires c = let a = ops.named_long c.args.name.bytes c.requires.named in
    record { has_slots = splices.has_slots c.requires.has_state; key_nonzero = omega arith }

pub returns : goal.returns
returns c = splices.reads_before c.args.name.bytes c.args.work.now _ _ refl c.tally_in.ensures
