use Rattle.std.proofs.Common.{◌∙◌, ◌-◌, ◌+◌, ◌≡◌, ℕ, ap, take, drop, arith}
use Rattle.waiting.proofs.moving.copy_slot.Goals as goal

pub returns : goal.returns
returns c =
    let n : c.args.at + 5940 - c.args.at ≡ 5940 = omega arith in
    c.copy_from_slice.ensures.after ∙ ap (λ (k : ℕ). take k (drop c.args.at c.args.work.now)) n
