use Rattle.std.proofs.Common.{ℕ, ◌≡◌, ◌+◌, ◌-◌, ◌∙◌, List, ap, ap₂, take, drop, length, arith}
use Rattle.lent.specs.Lent.{placed}
use Rattle.spans.specs.Bytes.{zeros}
use Rattle.tables.proofs.Laws as tables
use Rattle.waiting.proofs.Writes as writes
use Rattle.waiting.proofs.slots.put_field.Goals as goal

pub returns : goal.returns
returns c =
    let n : c.args.at + c.args.width - c.args.at ≡ c.args.width = omega arith in
    let l = ap (λ (k : ℕ). length (take k (drop c.args.at c.args.work.now))) n ∙ tables.part_length c.args.work.now c.args.at c.args.width c.requires.0 in
    let z : c.fill.new.self ≡ zeros c.args.width = c.fill.ensures.after (λ y e. e) ∙ ap zeros l in
    writes.filled c.args.at c.args.width c.args.work.now _ _ c.args.bytes.now c.requires.0 c.requires.1 (ap₂ (λ (k : ℕ) (x : List ℕ). placed c.args.at k x c.args.work.now) n z) c.put_slot.ensures
