use Rattle.std.proofs.Common.{◌+◌, ℕ, ◌∙◌, ap}
use Rattle.lent.specs.Lent.{placed}
use Rattle.state.specs.Layout.{padded}
use Rattle.waiting.proofs.Writes as writes
use Rattle.waiting.proofs.slots.write_field.Goals as goal

pub returns : goal.returns
returns c =
    let width = c.args.field.width in
    writes.rewrites c.args.i c.args.field.at width c.args.bytes.now c.args.work.now _ c.requires.has_slots c.requires.i_bound.0 c.requires.i_bound.1 c.requires.i_bound.2
    (c.put_field.ensures ∙ ap (λ (p : ℕ). placed (p + c.args.field.at) width (padded width c.args.bytes.now) c.args.work.now) c.slot_at.ensures)
