use native.Mathlib.Omega.{arith}
use Rattle.tables.proofs.Laws as tables
use Rattle.pass_header.proofs.Laws as laws
use Rattle.pass_header.proofs.clear_cursor.Goals as goal

pub returns : goal.returns
returns c =
    let l = c.requires.keeps.long in
    laws.cursor_cleared c.args.work.now _ (laws.zeroed 9151 34 c.args.work.now _ c.fill.new.self (tables.part_length c.args.work.now 9151 34 (omega arith)) (c.fill.ensures.after (λ y e. e)))
