use native.Mathlib.Omega.{arith}
use Rattle.tables.proofs.Laws as tables
use Rattle.pass_header.proofs.Laws as laws
use Rattle.pass_header.proofs.close_pass.Goals as goal

pub returns : goal.returns
returns c =
    let l = c.requires.keeps.long in
    laws.pass_closed c.args.work.now _ (laws.zeroed 9185 10817 c.args.work.now _ c.fill.new.self (tables.part_length c.args.work.now 9185 10817 (omega arith)) (c.fill.ensures.after (λ y e. e)))
